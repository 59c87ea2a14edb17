-- Laws that the functions' proofs share, and the proof of demand 3.
mod Raising
mod Asking
mod Choice
mod Trims
mod Rounds
mod Runs
mod Pairs
pub mod Demand3
