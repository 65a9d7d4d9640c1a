-- What `sizes` answers to a line.
pub mod Line
