-- The laws that proofs of the crates above cite, and the bench values.
pub mod Exchange
pub mod Permutations
pub mod Shuffling
pub mod Placing
pub mod Inverting
pub mod Windows
pub mod Answers
pub mod Bench
