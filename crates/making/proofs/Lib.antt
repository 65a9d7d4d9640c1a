-- The laws of setup.
pub mod Lists
pub mod SetSizes
pub mod Drawn
pub mod Columns
pub mod Shuffles
pub mod Searching
pub mod Filled
pub mod KeyLaws
pub mod Outcomes
-- What a pair of setup is made of, and that its keys read back as that: for the crates above, no function here goes by it.
pub mod BlockLaws
pub mod ReadBack
pub mod MadeLaws
