-- The checker's promise.
pub mod Lists
