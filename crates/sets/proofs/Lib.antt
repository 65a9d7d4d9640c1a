-- The laws of sets.
pub mod Valid
