-- The library's replay is the plain replay: demand 3 over the definitions, as far as it needs no engine.
pub mod Agrees
pub mod Folds
pub mod Accepts
pub mod Blocks
pub mod Logs
