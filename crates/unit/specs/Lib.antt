pub mod Tapes
pub mod Own
pub mod Within
pub mod Handover
pub mod Ahead
pub mod Demands
pub mod Outcomes
