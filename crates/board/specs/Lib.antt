pub mod Serve
pub mod Ends
pub mod Laws
pub mod Outcomes
