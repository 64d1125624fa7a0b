-- The words of one part: there are three, and they tell the part.
use Rattle.std.proofs.Common.{◌≡◌, ℕ, length, refl, arith}
use Rattle.claims.specs.Claims.{Pure, same, other, Atom, cell, row}
use Rattle.claims.specs.Words.{pure_words, atom_words}

pub length_pure : (p : Pure) → length (pure_words p) ≡ 3
length_pure (same x y) = refl
length_pure (other x y) = refl

pub length_atom : (a : Atom) → length (atom_words a) ≡ 3
length_atom (cell x y) = refl
length_atom (row x y) = refl

pub pure_one : (p q : Pure) → pure_words p ≡ pure_words q → p ≡ q
pure_one (same x y) (same u v) e = cc
pure_one (same x y) (other u v) e = let z : ◌≡◌ {A = ℕ} 0 1 = cc in absurd (omega arith)
pure_one (other x y) (same u v) e = let z : ◌≡◌ {A = ℕ} 0 1 = cc in absurd (omega arith)
pure_one (other x y) (other u v) e = cc

pub atom_one : (a b : Atom) → atom_words a ≡ atom_words b → a ≡ b
atom_one (cell x y) (cell u v) e = cc
atom_one (cell x y) (row u v) e = let z : ◌≡◌ {A = ℕ} 2 3 = cc in absurd (omega arith)
atom_one (row x y) (cell u v) e = let z : ◌≡◌ {A = ℕ} 2 3 = cc in absurd (omega arith)
atom_one (row x y) (row u v) e = cc
