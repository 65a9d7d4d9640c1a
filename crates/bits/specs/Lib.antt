-- What the contracts of this crate and the definitions above it cite: bits, 16-bit numbers, and the two packing calls.
pub mod Bits
pub mod Steps
pub mod Numbers
pub mod Answer
