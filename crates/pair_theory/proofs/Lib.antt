-- Pair rounds: which pairs gain, what a pair's round does to the table, and when it is passed over.
pub mod Gains
pub mod Rounded
pub mod Passing
