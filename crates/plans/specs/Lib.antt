-- The total in a figure.
pub mod Totals
