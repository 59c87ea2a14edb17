-- Runs over any lawful rounds, and that the engine's rounds are such.
pub mod Runs
pub mod Engine
pub mod Calls
pub mod Round
