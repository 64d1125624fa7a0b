-- Names of one pattern: two names below k stand for the same in both or in neither.
--
-- like_nowhere: a name is nowhere in both or in neither; like_empty: a row is empty for both or for neither.
-- pures_like: same and other hold of both or of neither.
use Rattle.std.proofs.Common.{◌≡◌, ℕ, zero, suc, ◌<◌, ◌≤◌, ◌↔◌, List, [], ◌∷◌, get_or}
use Rattle.std.specs.List.{AllByRecursion}
use Rattle.claims.specs.Claims.{Pure, same, other, Atom, cell, row}
use Rattle.claims.specs.Words.{PureBelow, AtomBelow}
use Rattle.claims.specs.Memory.{Names, at, PureHolds}
use Rattle.memory.specs.Owners.{start, end, Empty}
use Rattle.models.specs.Generic.{Like}

pub start_below : {k : ℕ} (a : Atom) → AtomBelow k a → start a < k
start_below (cell x y) b = b.0
start_below (row x y) b = b.0

pub end_below : {k : ℕ} (a : Atom) → AtomBelow k a → end a < k
end_below (cell x y) b = b.1
end_below (row x y) b = b.1

getD_all : {A : Type 0} (P : A → Type 0) (xs : List A) (i : ℕ) (d : A) → P d → AllByRecursion P xs → P (get_or xs i d)
getD_all P [] i d p h = p
getD_all P (x ∷ xs) zero d p h = h.0
getD_all P (x ∷ xs) (suc i) d p h = getD_all P xs i d p h.1

-- names stand for places below k, if the list has no others
pub at_below : (k : ℕ) (g : Names) → 1 ≤ k → AllByRecursion (λ p. p < k) g → (x : ℕ) → at g x < k
at_below k g some_names h zero = some_names
at_below k g some_names h (suc x) = getD_all (λ p. p < k) g (suc x) 0 some_names h

pub like_sym : (k : ℕ) (g n : Names) → Like k g n → Like k n g
like_sym k g n like x y lx ly = let (f, b) = like x y lx ly in (b, f)

module _ (k : ℕ) (g n : Names) (like : Like k g n) where
  pub like_nowhere : 1 ≤ k → (x : ℕ) → x < k → (at g x ≡ 0) ↔ (at n x ≡ 0)
  like_nowhere some_names x l = like x 0 l some_names

  pub like_empty : (a : Atom) → AtomBelow k a → Empty g a ↔ Empty n a
  like_empty (cell x y) b = ((λ e. e), λ e. e)
  like_empty (row x y) b = like x y b.0 b.1

  pub pure_like : (f : Pure) → PureBelow k f → PureHolds g f → PureHolds n f
  pure_like (same x y) b h = (like x y b.0 b.1).0 h
  pure_like (other x y) b h = λ e. h ((like x y b.0 b.1).1 e)

  pub pures_like : (fs : List Pure) → AllByRecursion (PureBelow k) fs → AllByRecursion (PureHolds g) fs → AllByRecursion (PureHolds n) fs
  pures_like [] b h = tt
  pures_like (f ∷ fs) b h = (pure_like f b.0 h.0, pures_like fs b.1 h.1)
