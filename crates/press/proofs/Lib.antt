-- What several proofs cite.
pub mod Calls
