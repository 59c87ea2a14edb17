-- The plain replay of a log: what a line can do and how a stretch alone goes in it, the stretches, the case lines of a join, what is kept; and the
-- weights of a join that wait in the starting table.
pub mod LogSteps
pub mod Stretches
pub mod JoinDues
pub mod SoundLogs
pub mod Waiting
pub mod WaitingDues
pub mod WaitingTests
pub mod WaitingReads
pub mod WaitingSteps
