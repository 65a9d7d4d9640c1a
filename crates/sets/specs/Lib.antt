-- The sets and their numbers.
pub mod Table
pub mod Valid
