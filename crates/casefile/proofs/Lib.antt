-- Laws that the functions' proofs cite.
pub mod Tests
pub mod Heads
pub mod Barring
pub mod Taken
pub mod Left
pub mod Cases
pub mod Alone
pub mod Zeroing
