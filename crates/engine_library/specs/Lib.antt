-- What the functions that other languages call answer, on all input.
pub mod Answers
