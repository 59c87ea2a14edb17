-- What several proofs cite.
pub mod Placed
pub mod Answers
