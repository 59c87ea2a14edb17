-- The definitions that the contracts of `texts` cite beside those of `definitions`.
pub mod Texts
