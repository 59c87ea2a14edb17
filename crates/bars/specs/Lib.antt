-- What the functions answer.
pub mod Bars
