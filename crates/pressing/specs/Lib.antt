-- The definitions that the contracts of `pressing` cite, and what is promised of them together.
pub mod Pressing
pub mod Prints
