-- The definitions that the contracts of `judging` cite, and what is promised of them together.
pub mod Judging
pub mod Cuts
