-- The laws that proofs of the crates above cite, and the bench values.
pub mod Strings
pub mod Packing
pub mod Keys
pub mod Sixteen
pub mod Windows
mod Unpacking
pub mod Answers
pub mod Bench
