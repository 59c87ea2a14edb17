-- The tables that the engine's rounds reach: what comes next there, that number 11 never does from starting weights, and how many rounds.
pub mod Next
pub mod Kept
pub mod Spread
pub mod Shares
pub mod Summing
pub mod Counts
pub mod Phases
pub mod Resting
