mod Values
mod Promised
mod Within
pub mod Outcomes
