-- The laws that proofs of every crate cite.
pub mod Loops
pub mod Tables
pub mod Parts
pub mod Writing
