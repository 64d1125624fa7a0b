pub mod Examples
pub mod Threes
pub mod PartWords
pub mod ClaimWords
pub mod Putting
pub mod ShapesTold
