-- What the contracts of setup cite.
pub mod Drawing
pub mod Blocks
pub mod Sizes
pub mod Filling
pub mod Entered
pub mod Stages
