-- The laws of sealing.
pub mod Selections
pub mod Room
pub mod Choosing
pub mod Elements
pub mod Words
pub mod Sent
pub mod Finding
pub mod Blocks
pub mod Sealing
