pub mod Number
pub mod Written
pub mod Read
pub mod Laws
pub mod Outcomes
