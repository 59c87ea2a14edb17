-- What a void line's conditions are on a table that was checked.
pub mod Barring
