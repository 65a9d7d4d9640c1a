-- Definitions only, in the order of reading: the numbers of a set, keys and the opening's undoing, the word of a vector, the places
-- I and T, good pairs and opening, the chain of setup. Each mirrors a definition that the scheme makes on lists of numbers: in place of
-- lists stand functions of a place, in place of numbers the elements of any field.
pub mod Sizes
pub mod Key
pub mod Encoding
pub mod Places
pub mod Good
pub mod Chain
