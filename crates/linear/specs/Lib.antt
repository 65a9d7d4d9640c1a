-- Matrices in a list, Gauss-Jordan elimination in its fixed order, and what is read off its end: the inverse and a kernel vector.
pub mod Matrix
pub mod Elimination
pub mod Columns
pub mod Inverse
pub mod Kernel
