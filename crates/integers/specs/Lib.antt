-- Small words that the definitions are written with, and their laws for the proofs.
pub mod Words
pub mod Tests
pub mod Options
pub mod Linear
pub mod Lists
pub mod Tables
pub mod Sums
pub mod Maxima
