-- The replay of a log, as its definitions on all input have it, is the plain replay of a log: every line, the end, every list, every cut into blocks.
pub mod LogAgrees
pub mod Accepts
pub mod Blocks
pub mod Logs
