-- The laws that proofs of opening cite.
pub mod Combining
pub mod Listing
pub mod Matrices
pub mod Naming
pub mod Permuting
pub mod Reading
pub mod RowSums
pub mod Parting
pub mod Keyed
pub mod Preparing
pub mod Undoing
pub mod Accepting
pub mod Once
pub mod Regular
pub mod Answering
pub mod Vectors
pub mod Solved
