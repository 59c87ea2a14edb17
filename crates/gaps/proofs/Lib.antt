-- Laws that the functions' proofs cite, and what the answer is on a table that was checked.
mod Lesser
mod Ranges
pub mod Amounts
