-- What the private functions leave.
pub mod Closing
