-- What the contracts of this crate and the definitions above it cite: the shuffle, permutations, and the two calls.
pub mod Shuffle
pub mod Perm
pub mod Window
pub mod Answer
