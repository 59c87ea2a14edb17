-- What the functions answer, and what the inner ones may take as known.
pub mod Partners
pub mod Closure
pub mod Sweeps
pub mod Active
pub mod Fixed
pub mod Tried
pub mod Best
