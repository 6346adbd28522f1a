pub mod Answers
mod Cutting
mod Turning
mod Playing
mod Keeping
pub mod Piecewise
pub mod Forms
pub mod Firsts
pub mod Sampled
mod Lengths
