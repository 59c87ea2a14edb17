-- Laws of the definitions, and the promise of the start and the rounds together.
pub mod Calls
pub mod Prints
pub mod Unlimited
