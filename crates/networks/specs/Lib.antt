-- Arc consistency over an abstract network, which the code's contracts cite.
pub mod Network
