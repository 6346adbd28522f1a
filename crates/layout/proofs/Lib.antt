mod Stretch
mod Numbers
mod Parts
pub mod Back
pub mod Form
pub mod InPlace
pub mod Outcomes
