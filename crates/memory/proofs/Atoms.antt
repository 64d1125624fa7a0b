-- What a single cell or row says of its part of a memory.
--
-- atom_same: it says which part that is; atom_rest: and so what is left without it.
-- atom_start: it is an empty row, or has a cell at its start; atom_empty and empty_atom: an empty row has no cells.
-- cell_here and cell_only: a cell has its start for a place, and no other.
-- atom_passes: if it has no cell at p, and starts there, then it is a row that ends there too.
-- takes_row_atom: a row that starts where the atom does takes it and a row from its end.
use Rattle.std.proofs.Common.{◌≡◌, ℕ, true, false, T, eqb, ◌⊎◌, ◌↔◌, [], sym, ap, ◌∙◌, inl, inr, ⊎_elim}
use Rattle.std.proofs.lemmas.Bool.{both_ways, cases_eq, eqb-true, or_cases, false≢true}
use Rattle.claims.specs.Claims.{Atom, cell, row}
use Rattle.claims.specs.Memory.{Names, at, Memory, here, sound, Parts, IsRow, no_cells, AtomHolds}
use Rattle.memory.specs.Taking.{Takes}
use Rattle.memory.specs.Owners.{start, end, Empty, Passes}
use Rattle.memory.proofs.Parts.{here_first, not_true_false, rest_same}
use Rattle.memory.proofs.Rows.{row_same, row_start, row_nowhere, rows_same, takes_row_cell, takes_row_row}

pub atom_same :
    {m a b e f : Memory} (n : Names) (x : Atom) → Parts a e m → Parts b f m → T (sound m) → AtomHolds n x a → AtomHolds n x b →
    a ≡ b
atom_same n (cell x y) t u s v w = v.1 ∙ sym w.1
atom_same n (row x y) t u s v w = rows_same t u s v w

pub atom_rest :
    {m e f : Memory} (n : Names) (x : Atom) → T (sound m) → Takes (AtomHolds n x) m e → Takes (AtomHolds n x) m f → e ≡ f
atom_rest n x s t u = rest_same t.parts u.parts s (atom_same n x t.parts u.parts s t.is u.is)

pub cell_here : (n : Names) (x y : ℕ) (a : Memory) → AtomHolds n (cell x y) a → here (at n x) a ≡ true
cell_here n x y a h = rw h.1 (here_first (record { place = at n x; holds = at n y }) [])

pub atom_start :
    (n : Names) (x : Atom) (a : Memory) → AtomHolds n x a → Empty n x ⊎ (here (at n (start x)) a ≡ true)
atom_start n (cell x y) a h = inr (cell_here n x y a h)
atom_start n (row x y) a h = ⊎_elim inl (λ ne. inr (row_start h ne)) (cases_eq (at n x) (at n y))

pub atom_empty : (n : Names) (x : Atom) (a : Memory) → Empty n x → AtomHolds n x a → a ≡ []
atom_empty n (cell x y) a e h = absurd e
atom_empty n (row x y) a e h = row_same h e

pub empty_atom : (n : Names) (x : Atom) → Empty n x → AtomHolds n x []
empty_atom n (cell x y) e = absurd e
empty_atom n (row x y) e = no_cells e

pub cell_only : (n : Names) (x y p : ℕ) (a : Memory) → AtomHolds n (cell x y) a → here p a ≡ true → at n x ≡ p
cell_only n x y p a h k =
    let found = or_cases (eqb (at n x) p) false (sym (ap (λ l. here p l) h.1) ∙ k) in
    ⊎_elim (eqb-true (at n x) p) (λ e. absurd (false≢true e)) found

-- an atom has no cell nowhere
pub atom_nowhere : (n : Names) (x : Atom) (a : Memory) → AtomHolds n x a → here 0 a ≡ false
atom_nowhere n (cell x y) a h = not_true_false (here 0 a) (λ k. h.0 (cell_only n x y 0 a h k))
atom_nowhere n (row x y) a h = row_nowhere h

-- an empty row passes by every place, and any atom by a place that it does not start at
pub empty_passes : (n : Names) (x : Atom) (p : ℕ) → Empty n x → Passes n p x
empty_passes n (cell x y) p e = absurd e
empty_passes n (row x y) p e = λ q. sym e ∙ q

pub other_passes : (n : Names) (x : Atom) (p : ℕ) → (at n (start x) ≡ p → ⊥) → Passes n p x
other_passes n (cell x y) p h = h
other_passes n (row x y) p h = λ e. absurd (h e)

pub atom_passes : (n : Names) (x : Atom) (p : ℕ) (a : Memory) → AtomHolds n x a → here p a ≡ false → Passes n p x
atom_passes n x p a h k =
    let elsewhere : here (at n (start x)) a ≡ true → at n (start x) ≡ p → ⊥ = λ own e. both_ways (here p a) k (rw e at own) in
    ⊎_elim (empty_passes n x p) (λ own. other_passes n x p (elsewhere own)) (atom_start n x a h)

-- A row that starts where an atom does takes the atom and a row from its end, if the atom has no cell at the end of the row.
pub takes_row_atom :
    {m a b e : Memory} (n : Names) (x : Atom) (q : ℕ) → Parts a b m → T (sound m) → AtomHolds n x a → here q a ≡ false →
    Takes (IsRow (at n (start x)) q) m e ↔ Takes (IsRow (at n (end x)) q) b e
takes_row_atom {a = a} n (cell x y) q t s h k =
    takes_row_cell (rw h.1 at t) s (λ e. both_ways (here q a) k (rw e at (cell_here n x y a h)))
takes_row_atom n (row x y) q t s h k = takes_row_row t s h k
