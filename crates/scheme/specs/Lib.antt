-- What the library computes, in the order of reading.
pub mod Answers
pub mod Lists
pub mod Field
pub mod Padding
pub mod Matrices
pub mod Keys
pub mod Setup
pub mod Sealing
pub mod Opening
pub mod Calls
