-- Laws that the functions' proofs cite.
mod Writing
mod GrownEnds
mod Grown
mod Joined
