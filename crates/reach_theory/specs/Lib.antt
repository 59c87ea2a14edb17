-- What laws of other crates name.
pub mod Most
