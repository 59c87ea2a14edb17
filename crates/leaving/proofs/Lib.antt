-- Laws that the functions' proofs cite.
mod Lists
mod Edges
mod Moving
mod Kept
mod Growth
mod Restart
mod Call
