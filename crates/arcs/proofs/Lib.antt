-- Laws that the functions' proofs share. Fixed has the key theorem: `some-family`, and `refuted-bytes` behind it. Refutation has what is
-- cited of `none_supported`: `tried-active` and `tried-refuted`; Best has what is cited of `values_unsupported` and `best_unsupported`:
-- `values-unsupported-is-refuted`, `value-unsupported-is-refuted`, `best-unsupported-is-refuted`.
pub mod Search
pub mod Steps
pub mod Places
pub mod Results
pub mod Marked
pub mod Crossing
pub mod Scopes
pub mod Prepared
pub mod Fixed
pub mod Trying
pub mod Narrowed
pub mod Refutation
pub mod Best
