-- The two names that a part of a claim speaks of.
use Rattle.std.specs.Prelude.{ℕ}
use Rattle.claims.specs.Claims.{Pure, same, other, Atom, cell, row}

-- the two names of a same or other
abbrev pub left : Pure → ℕ
left (same x y) = x
left (other x y) = x

abbrev pub right : Pure → ℕ
right (same x y) = y
right (other x y) = y

-- the name that a cell or row starts at
abbrev pub start : Atom → ℕ
start (cell x y) = x
start (row x y) = x

-- the name that it leads to
abbrev pub end : Atom → ℕ
end (cell x y) = y
end (row x y) = y
