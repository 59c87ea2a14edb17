-- What the functions of `replay` do between reads.
pub mod Turns
