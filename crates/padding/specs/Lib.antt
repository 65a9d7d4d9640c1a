-- The steps that the contracts of padding are written in, and what unpadding answers.
pub mod Steps
pub mod Unpads
