-- Padding and Sizes are for other crates, with what Cleared says of the lost bits. The rest serves the crate's own proofs, but
-- that Answers says that unpadding has one answer.
pub mod Numbers
pub mod Xored
pub mod Cleared
pub mod Sizes
pub mod Padding
pub mod Steps
pub mod Gather
pub mod Answers
