-- Laws that the proofs of the replay's functions cite.
pub mod Numbers
pub mod LineKinds
pub mod Front
pub mod Leaves
pub mod Fold
pub mod Taking
pub mod Ends
pub mod Raising
