-- The engine's press: which variable and which scopes, the amount, what it does to the table, and that presses alone never meet number 11.
pub mod Raised
pub mod Trim
pub mod Gaps
pub mod Fall
pub mod InRange
pub mod Own
