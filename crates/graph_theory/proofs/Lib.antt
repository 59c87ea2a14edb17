-- Walks along edges, and plans where the edges form no cycle.
pub mod Walks
pub mod Plans
pub mod Samples
