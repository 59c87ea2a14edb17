-- What the call answers and leaves, and what its functions may take as known.
pub mod PairCall
pub mod Shifts
