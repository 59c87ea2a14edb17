-- What the functions answer, and what the inner ones do to a list.
pub mod Growing
pub mod Parts
