-- What the functions answer on all input, and the steps to it.
pub mod Joining
pub mod Steps
