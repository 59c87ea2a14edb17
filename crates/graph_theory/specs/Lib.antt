-- What change 4 of document 02 says of a state.
pub mod Hilltop
