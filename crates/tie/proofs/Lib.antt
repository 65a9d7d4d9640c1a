-- Laws alone: Bridge and Splitting take the scheme's definitions of opening to those of `pairs`, Regular the singular matrices.
pub mod Choices
pub mod Passing
pub mod Bridge
pub mod Splitting
pub mod Regular
