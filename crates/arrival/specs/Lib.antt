-- What holds of a message that went through the calls.
pub mod Arrives
