-- The laws that callers cite are behind `pub mod`; the rest serves the proofs of this crate.
mod Runs
mod Steps
mod Entries
mod Made
mod Pivot
mod Reduction
mod Search
mod Ends
mod Keeps
mod Clearing
mod Beside
mod Reading
mod Examples
pub mod View
pub mod Laws
pub mod Vector
pub mod Inverted
pub mod Count
