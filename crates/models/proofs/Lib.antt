-- laws of parts and of atoms with their parts
pub mod Parts
pub mod Dealing
-- names of one pattern, and the memories to try for them
pub mod Like
pub mod Generic
pub mod Forks
pub mod Stretched
-- from the trials to all memories
pub mod Walk
pub mod Matched
pub mod Tried
-- the theorems
pub mod Finite
pub mod Decidable
pub mod Exact
pub mod Patterns
pub mod Small
