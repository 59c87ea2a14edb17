-- Words that the statements about runs are written with.
pub mod Runs
