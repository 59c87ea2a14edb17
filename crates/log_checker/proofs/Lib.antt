-- Laws that the proofs of the replay's functions cite.
pub mod Lift
pub mod Folds
