-- Laws that the functions' proofs cite.
mod Narrowed
pub mod Firsts
