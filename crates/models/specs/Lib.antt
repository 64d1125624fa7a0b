-- What it is for one claim to follow from another, the memories that show that it does not, and the theorems on them.
pub mod Generic
pub mod Follows
-- words that proofs of the theorems use, and layers above
pub mod Matching
