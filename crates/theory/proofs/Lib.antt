-- Lemmas and theorems over the record `Field`. The main ones are marked THEOREM where they stand:
--   Distance   vandermonde, distance, unique, block
--   Poly       few-roots (root count)
--   Generator  generator-code, generator-independent
--   Steps      steps-rows (L-rows), steps-inj (L-inj), steps-kernel and kernel-steps, steps-left
--   Reduced    reduced-unique, inverse-left and inverse-right, regular-left and regular-right, stopped-kernel (L-stop)
--   Singular   reduce, exists-kernel, left-of-right, stopped-left
--   Decode     locator, values, system-done and system-solved; corrected puts them together
pub mod Field
pub mod Place
pub mod Sum
pub mod Weight
pub mod Power
pub mod Distance
pub mod Poly
pub mod Generator
pub mod RowOps
pub mod Steps
pub mod Reduced
pub mod Pivot
pub mod Singular
pub mod Decode
