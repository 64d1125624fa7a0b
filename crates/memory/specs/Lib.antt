-- What the laws of memory say, and the words that they and the layers above use.
pub mod Laws
pub mod Taking
pub mod Owners
-- memories as words, walks from cell to cell, why a claim fails, and what the checking call promises
pub mod Marks
pub mod Dealings
pub mod Walks
pub mod Judging
pub mod Checking
