-- What the crate computes: SHA-512 (Word, Constants, Sha), the mask generator (Mask), and the answers of its calls (Answers).
-- Held is no part of that meaning: inner contracts and proofs use it.
pub mod Word
pub mod Constants
pub mod Sha
pub mod Mask
pub mod Answers
pub mod Held
