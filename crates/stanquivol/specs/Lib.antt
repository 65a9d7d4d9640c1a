-- What a number that is returned to C means.
pub mod Coded
