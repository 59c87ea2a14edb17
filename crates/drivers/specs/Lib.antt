-- The definitions that the contracts of `drivers` cite beside those of `definitions`.
pub mod Drivers
pub mod Taken
