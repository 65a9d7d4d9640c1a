-- THEOREM table-holds: all the known values at once; bench-values: the same by name.
pub mod Values
