-- Laws of supported families, of the largest one, and of the network of a case.
pub mod Networks
pub mod Families
