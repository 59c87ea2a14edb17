-- The replay's calls on all input, samples of them, and what the private functions answer.
pub mod Checker
pub mod CheckerSamples
pub mod Taken
pub mod Raising
