-- Laws of the definitions, and demand 3 over them as far as it needs no engine.
pub mod Shape
pub mod Words
pub mod Places
pub mod Totals
pub mod Barred
pub mod Own
pub mod Shifts
pub mod Presses
pub mod Validity
pub mod Full
pub mod Leave
pub mod Join
pub mod Replays
pub mod Rounds
pub mod ShiftLogs
