-- What sealing answers, and what its steps leave in the work area.
pub mod Steps
pub mod Seals
