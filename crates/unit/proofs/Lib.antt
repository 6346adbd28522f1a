pub mod Demands
pub mod Outcomes
mod Bytes
pub mod Lending
pub mod Handover
pub mod Ahead
pub mod Legs
pub mod Completed
mod Settling
pub mod InBlock
