-- that a question is within the limits, as a fact that a struct may hold
pub mod Proposition
-- names and a memory that are told, and what shows that it does not follow
pub mod Telling
pub mod Trying
-- settling a question, part by part
pub mod Reducing
pub mod Searching
-- the calls that decide
pub mod Deciding
pub mod Exporting
