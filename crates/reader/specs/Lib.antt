-- Where a reader stands, which the contracts of this crate cite, and what is read by it.
pub mod Places
