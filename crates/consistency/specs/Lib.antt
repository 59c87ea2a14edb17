-- What the private functions answer.
pub mod Arguments
