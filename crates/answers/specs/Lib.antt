-- What an answer says.
pub mod Answering
