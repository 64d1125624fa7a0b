-- What a reader has to believe of what the programs share.
pub mod Commands
