-- Laws that the functions' proofs cite.
pub mod Tests
pub mod SpacedLaws
pub mod ScopeLaws
pub mod KeptLaws
pub mod TransferLaws
pub mod LoweringLaws
pub mod ValueLaws
