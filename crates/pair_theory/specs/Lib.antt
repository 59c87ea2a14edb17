-- When a pair's round leaves the working range.
pub mod Closed
