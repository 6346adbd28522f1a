pub mod Choice
pub mod Tests
pub mod Placed
pub mod Text
pub mod Outcomes
