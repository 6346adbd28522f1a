mod Held
mod InPlace
mod Ended
pub mod Outcomes
pub mod Calls
