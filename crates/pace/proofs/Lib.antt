mod Turns
pub mod Outcomes
