pub mod Choosing
pub mod Placing
pub mod Digits
pub mod Outcomes
