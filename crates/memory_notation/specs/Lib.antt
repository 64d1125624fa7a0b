-- What a reader has to believe of the promises.
pub mod Reading
pub mod Answering
pub mod Placing
-- how the words of a text follow one another: for the proofs that the reading ends
pub mod Items
