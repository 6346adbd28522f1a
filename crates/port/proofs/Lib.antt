pub mod Answers
mod Tested
mod Made
pub mod Whole
mod Level
