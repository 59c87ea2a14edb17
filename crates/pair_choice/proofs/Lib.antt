-- Laws that the functions' proofs cite. Pairs has what is cited of the functions: `leaves-is` and `lowest-pair-is`.
mod Ranges
mod Choices
pub mod Pairs
