-- Laws is for other crates, and Answers says that a call's contract leaves one answer. The rest serves the crate's own proofs.
pub mod Laws
pub mod Answers
pub mod Bitwise
pub mod Rotations
pub mod Schedule
pub mod Bytes
pub mod Chain
pub mod Update
pub mod Finish
pub mod Masks
