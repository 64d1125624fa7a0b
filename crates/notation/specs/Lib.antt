-- What a reader has to believe of the notation's promises.
pub mod Order
pub mod Spelling
pub mod Reading
-- where a fault is
pub mod Stops
-- how the words of a text follow one another: for the proofs that the reading ends
pub mod Steps
