-- Document 02, change 5: links that leave and join, and the plain replay of a log with such lines.
pub mod Leave
pub mod Join
pub mod Logs
pub mod Waiting
pub mod LeaveSamples
pub mod JoinSamples
pub mod LogSamples
