-- Demand 3 as one statement.
pub mod Demand3
