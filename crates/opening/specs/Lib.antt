-- What the contracts of opening are written in.
pub mod Area
pub mod Given
pub mod Held
pub mod Listing
pub mod Bounds
pub mod Inverse
pub mod Vector
pub mod Ending
