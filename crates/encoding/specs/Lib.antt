-- The case and the replay's record as bytes, and the version. Assumes nothing.
pub mod Numbers
pub mod CaseBytes
pub mod RecordBytes
pub mod Version
