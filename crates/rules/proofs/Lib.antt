-- What the leaves' proofs share.
pub mod Books
