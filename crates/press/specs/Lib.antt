-- What the functions of `press` do between a read and a write.
pub mod Rounds
