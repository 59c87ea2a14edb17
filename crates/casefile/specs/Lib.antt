-- What the private functions answer, and what they may take as known.
pub mod Reads
pub mod Steps
pub mod Past
