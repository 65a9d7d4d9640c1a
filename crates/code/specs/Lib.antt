-- The Reed-Solomon code (RLCE-KEM specification of September 14, 2017, sections 6.1.3 and 7.14), in the order of reading: words and code words, what decoding answers and the room it
-- needs, the generator; then what its stages leave in their parts of the work area.
pub mod Words
pub mod Area
pub mod Decoding
pub mod Generator
pub mod Stages
