-- Laws of the definitions, and the promise of the start, the blocks and the finish together.
pub mod Fronts
pub mod Tables
pub mod Blocks
pub mod Ends
pub mod Prints
