-- The library's calls on all input: what each answers and leaves in everything lent.
pub mod Calls
pub mod EngineCalls
pub mod CallSamples
pub mod CallBorders
pub mod BarredCallBorders
pub mod FileBorders
pub mod FamilySamples
pub mod AcyclicSamples
pub mod LengthCallBorders
