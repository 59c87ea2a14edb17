-- Laws that the functions' proofs share. Rounds has what callers cite: `pair-call-taken`, the call on what was checked.
mod Moves
mod Texts
mod Ends
pub mod Rounds
