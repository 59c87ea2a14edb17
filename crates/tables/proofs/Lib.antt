-- Laws that the functions' proofs cite.
pub mod Search
pub mod Chains
pub mod Maxima
pub mod Order
mod Ranges
pub mod Bounds
pub mod Parts
pub mod Answered
pub mod Best
mod Paired
