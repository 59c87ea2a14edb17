-- What one line does to the search for a round.
pub mod Steps
