pub mod Record
pub mod Recording
pub mod Walk
pub mod Laws
pub mod Held
pub mod Outcomes
