-- What several proofs cite.
pub mod Steps
pub mod Signs
pub mod Stores
pub mod Answers
pub mod AtRules
pub mod Widths
pub mod RaiseTexts
pub mod Bits
