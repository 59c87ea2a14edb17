-- What several proofs cite.
pub mod Turning
pub mod Printing
