-- The field, GF(2^10), what the kernels and the field calls compute: all that users of this crate have to read.
pub mod Field
pub mod Ten
pub mod Runs
pub mod Answers
-- for the code of this crate alone
pub mod Digits
