-- Laws that the functions' proofs cite, and what is written on what was checked.
pub mod Texts
pub mod Calls
