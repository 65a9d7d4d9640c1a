-- What the five calls end with, and what their inner functions are given.
pub mod Given
pub mod Ends
