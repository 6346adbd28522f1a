pub mod Standing
pub mod Walking
pub mod Recorded
pub mod Answers
pub mod Holding
pub mod Parts
