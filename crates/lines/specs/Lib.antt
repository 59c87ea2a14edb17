-- The definitions that the contracts of `lines` cite beside those of `definitions`.
pub mod Found
pub mod AtWidth
pub mod WriteNumber
pub mod Words
pub mod Digits
pub mod Raises
