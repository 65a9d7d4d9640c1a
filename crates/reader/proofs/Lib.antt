-- The law that ties a reader's steps to the elements of a byte string.
pub mod Laws
