-- The lemmas behind the contracts.
mod Cut
mod Told
