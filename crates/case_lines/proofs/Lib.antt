-- Laws that the proofs of readers and writers cite.
pub mod Tests
pub mod Dues
