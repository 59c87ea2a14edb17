-- What the private functions answer, and what they may take as known.
pub mod Search
pub mod Rounds
