-- What callers cite stands behind `pub mod`. The main laws:
--   Bridge        code-is and is-code (CodeWord is IsCode of `theory`), wt-apart and apart-wt, sum-syn, sum-ev, sum-lt
--   Distance      light-zero, near-once, decodes-once, block-zero
--   Coefficients  generator-length, generator-small
--   Shifts        generator-is, shifted-is, shifts-code, shifts-independent
--   Room          room-enough
pub mod Bridge
pub mod Distance
pub mod Coefficients
pub mod Shifts
pub mod Room
-- the rest serves the proofs of this crate's own functions, from the loops up to decoding whole
mod Powers
mod Horner
mod Kernels
mod Collecting
mod Settling
mod Locating
mod Valuing
mod Deciding
