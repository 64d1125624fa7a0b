pub mod Kinds
pub mod Padded
