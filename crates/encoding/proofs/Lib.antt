-- What several proofs cite.
pub mod Signed
pub mod Values
pub mod Parts
pub mod Back
