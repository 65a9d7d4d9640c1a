-- The laws of the calls.
pub mod Rows
pub mod SetupLaws
pub mod SealLaws
pub mod OpenLaws
pub mod Counts
pub mod Zero
