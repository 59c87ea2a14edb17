-- What the functions answer, and what the private ones may take as known.
pub mod Both
pub mod Edges
pub mod Scopes
