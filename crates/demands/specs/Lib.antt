-- The demands: 1, how every call ends; 2, what it gives; 3, the promises about key pairs.
pub mod Demand1
pub mod Demand2
pub mod Demands
