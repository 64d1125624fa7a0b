-- What a claim says of names and a memory.
use Rattle.std.specs.Prelude.{◌≡◌, ℕ, zero, suc, Bool, true, false, not, ◌&&◌, ◌||◌, List, [], ◌∷◌, ◌==◌, ◌≢◌, slice_index}
use Rattle.std.specs.List.{AllByRecursion}
use Rattle.claims.specs.Claims.{Pure, same, other, Atom, cell, row, Claim}

-- What names stand for: places (locations), which are numbers from 1, or nowhere, 0, as name 0 always does.
abbrev pub Names : Type 0
Names = List ℕ

abbrev pub at : Names → ℕ → ℕ
at n zero = 0
at n (suc x) = slice_index n (suc x)

-- A cell is at a place and holds something; in the memories of claims that is where it leads.
pub record Cell (A : Type 0) : Type 0 where
  pub place : ℕ
  pub holds : A

abbrev pub Cells : Type 0 → Type 0
Cells A = List (Cell A)

-- a memory (heap): cells, each leading to a place, with a cell or without, or nowhere
abbrev pub Memory : Type 0
Memory = Cells ℕ

-- one of the cells is at the place p
abbrev pub here : {A : Type 0} → ℕ → Cells A → Bool
here p [] = false
here p (c ∷ m) = c.place == p || here p m

-- cells at different places, none nowhere
abbrev pub sound : {A : Type 0} → Cells A → Bool
sound [] = true
sound (c ∷ m) = not (c.place == 0) && (not (here c.place m) && sound m)

-- the first two are parts of the third, and together all of it
pub data Parts {A : Type 0} : List A → List A → List A → Type 0 where
  none_p : Parts [] [] []
  left_p : {c : A} {a b m : List A} → Parts a b m → Parts (c ∷ a) b (c ∷ m)
  right_p : {c : A} {a b m : List A} → Parts a b m → Parts a (c ∷ b) (c ∷ m)

-- A row from p to q is these cells: none, if p and q are the same;
-- or else one at p, which isn't nowhere, that leads to some r, and a row from r to q of the other cells.
pub data IsRow : ℕ → ℕ → Memory → Type 0 where
  no_cells : {p q : ℕ} → p ≡ q → IsRow p q []
  some_cells :
      {p q r : ℕ} {b m : Memory} → (p ≢ q) → (p ≢ 0) → Parts (record { place = p; holds = r } ∷ []) b m →
      IsRow r q b → IsRow p q m

abbrev pub PureHolds : Names → Pure → Type 0
PureHolds n (same x y) = at n x ≡ at n y
PureHolds n (other x y) = at n x ≡ at n y → ⊥

-- what one cell or row says of its part of the memory
abbrev pub AtomHolds : Names → Atom → Memory → Type 0
AtomHolds n (cell x y) m = (at n x ≢ 0) × (m ≡ record { place = at n x; holds = at n y } ∷ [])
AtomHolds n (row x y) m = IsRow (at n x) (at n y) m

-- the memory's cells are dealt out to the cells and rows: all of them, each once
pub data Dealt (n : Names) : List Atom → Memory → Type 0 where
  no_more : Dealt n [] []
  one_more :
      {a : Atom} {more : List Atom} {part rest m : Memory} → Parts part rest m → AtomHolds n a part → Dealt n more rest →
      Dealt n (a ∷ more) m

-- the claim c holds of the names n and the memory m
pub record Says (n : Names) (m : Memory) (c : Claim) : Type 0 where
  pub pures : AllByRecursion (PureHolds n) c.pures
  pub atoms : Dealt n c.atoms m
