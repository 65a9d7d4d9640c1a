-- Definitions only, in the order of reading: the field, words and their weight, the code and its generator, matrices and row operations.
pub mod Field
pub mod Word
pub mod Code
pub mod Matrix
