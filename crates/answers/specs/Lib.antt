pub mod Place
pub mod Looks
pub mod Moved
pub mod Settled
pub mod Outcomes
