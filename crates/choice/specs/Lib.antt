-- What the functions answer.
pub mod Choice
