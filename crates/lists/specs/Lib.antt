-- Lists, loops and answers: the few notions that the definitions of every other crate are written in.
pub mod Loops
pub mod Parts
pub mod Answers
