-- The lengths of large arrays.
pub mod Repeats
