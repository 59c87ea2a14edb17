-- The promise of a log's replay, by stretches, and what its judgement is.
pub mod Lists
pub mod Judged
