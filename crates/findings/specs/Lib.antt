-- that a question is within the limits, as a fact that a struct may hold
pub mod Proposition
