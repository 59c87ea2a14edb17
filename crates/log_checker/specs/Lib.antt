-- A log's calls on all input, and samples of them.
pub mod Checker
pub mod Taken
pub mod CheckerSamples
