-- What a log writer is after a line.
pub mod Writers
