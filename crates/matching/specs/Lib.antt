-- Why a second claim follows: the rules of the search.
pub mod Rules
-- finding the second claim in the first, part by part
pub mod Using
pub mod Parting
