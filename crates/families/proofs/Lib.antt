-- Laws of the value that is found and of the bytes that are written.
pub mod Bytes
pub mod Shown
