-- The table of known values, and what it says line by line.
pub mod Table
