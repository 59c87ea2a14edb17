-- Laws of labels that are written, and of what the check answers.
pub mod Labels
pub mod Checked
