-- What the functions answer, and what the private ones may take as known.
pub mod Scopes
pub mod Leaving
