-- Laws that the functions' proofs cite.
mod ColumnTests
mod Rooms
mod Barring
pub mod Lines
mod Held
