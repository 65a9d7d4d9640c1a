-- What the programs print of an answer.
pub mod Answers
