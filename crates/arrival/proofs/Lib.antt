-- The message arrives: the theorems of the crate `demands`, over what the calls ensure.
pub mod Ways
