-- What the calls around decoding ask of a word.
pub mod Small
