-- the rules are right
pub mod Rules
-- lists of atoms, and using them up
pub mod Lists
pub mod Outside
pub mod Consuming
pub mod Parting
