-- The laws that users of the field cite.
pub mod Xor
pub mod Ring
pub mod Cyclic
pub mod Elements
pub mod Runs
pub mod Rows
pub mod Answers
-- which moduli are fields: the test, and the one that is tested
pub mod Test
pub mod Ten
pub mod Bench
-- what the proofs of this crate's own functions use besides
pub mod Tables
mod Powers
mod Digits
mod Turns
pub mod Stores
