-- The lines of a case after its head.
pub mod Dues
