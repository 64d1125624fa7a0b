-- Taking a cell or a row out of a memory, from cell to cell.
--
-- walked_start, walked_step, walked_end and walked_stuck: the ways of a loop that looks for a row.
-- walk_row: a walk that doesn't come back to where it was is a row.
-- cell_found, cell_absent and cell_elsewhere: the ways of a search for a cell.
-- cell_taken and row_taken: and what they say of an atom.
use Rattle.std.proofs.Common.{◌≡◌, ℕ, ◌<◌, true, false, T, eqb, ◌↔◌, [], ◌∷◌, length, Ok, Err, Result, refl, ap, ◌∙◌, subst, arith}
use Rattle.std.proofs.lemmas.Bool.{both_ways, or_from, ne_eqb}
use Rattle.claims.specs.Claims.{Atom, cell, row}
use Rattle.claims.specs.Memory.{Names, at, Memory, here, sound, Parts, IsRow, no_cells, some_cells}
use Rattle.claims.specs.declared.names.Place.{Place}
use Rattle.memory.specs.Taking.{Takes}
use Rattle.memory.specs.Walks.{Walk, no_step, step, RowStuck, IsCell, CellTaken, RowTaken, AtomTaken}
use Rattle.memory.proofs.Parts.{parts_comm, parts_assoc, parts_regroup, parts_none, parts_length, none_parts, all_parts, absent_whole, here-left, here_neither, here_out, one_out, sound_nowhere, sound-left}
use Rattle.memory.proofs.Rows.{row_start, takes_row_none, takes_row_cell}

-- one walked from p among the cells of m, has come to b with q not yet seen, and e is left
pub record Walked (p q : ℕ) (m : Memory) (b : ℕ) (e : Memory) : Type 0 where
  pub used : Memory
  pub parts : Parts used e m
  pub walk : Walk p b used
  pub end_unseen : here q used ≡ false
  pub onward : (f : Memory) → Takes (IsRow p q) m f ↔ Takes (IsRow b q) e f

pub walked_start : (p q : ℕ) (m : Memory) → Walked p q m p m
walked_start p q m =
    record { used = []; parts = none_parts m; walk = no_step refl; end_unseen = refl; onward = λ f. ((λ t. t), λ t. t) }

pub walked_step :
    {p q b r : ℕ} {m e f : Memory} → Walked p q m b e → T (sound e) → (b ≡ q → ⊥) →
    Parts (record { place = b; holds = r } ∷ []) f e → Walked p q m r f
walked_step {q = q} {b = b} w s ne out =
    let (used, u, v) = parts_regroup w.parts out in
    record {
      used = used;
      parts = v;
      walk = step w.walk u;
      end_unseen = absent_whole u q w.end_unseen (or_from (eqb b q) false (ne_eqb b q ne) refl);
      onward =
          λ g. ((λ t. (takes_row_cell out s ne).0 ((w.onward g).0 t)), λ t. (w.onward g).1 ((takes_row_cell out s ne).1 t));
    }

-- a cell that is taken out is no longer there
pub one_fewer : {p r : ℕ} {e f : Memory} → Parts (record { place = p; holds = r } ∷ []) f e → length f < length e
one_fewer out = omega (arith, parts_length out)

pub walked_end : {p q b : ℕ} {m e : Memory} → Walked p q m b e → b ≡ q → Takes (IsRow p q) m e
walked_end {e = e} w same = (w.onward e).1 ((takes_row_none same).1 refl)

-- a walk and a row from where it comes to are a row, if the walk has no cell at the end of that
walk_on :
    {p b r : ℕ} {used rest m : Memory} → Walk p b used → T (sound m) → Parts used rest m → IsRow b r rest → here r used ≡ false →
    IsRow p r m
walk_on {r = r} (no_step same) s t w k = rw same (rw (← parts_none t) w)
walk_on {r = r} {m = m} (step {q = q} {m = used} v u) s t w k =
    let (g, g1, g2) = parts_assoc t u in
    let (k1, k2) = here_neither u r k in
    let there : here q used ≡ true = here_out (parts_comm u) in
    let far : q ≡ r → ⊥ = λ e. both_ways (here r used) k (rw e at there) in
    let somewhere : q ≡ 0 → ⊥ = λ z. both_ways (here q m) (rw z (sound_nowhere m s)) (here-left t q there) in
    walk_on v s g1 (some_cells far somewhere g2 w) k1

pub walk_row : {p b : ℕ} {used : Memory} → Walk p b used → T (sound used) → here b used ≡ false → IsRow p b used
walk_row {used = used} w s k = walk_on w s (all_parts used) (no_cells refl) k

pub walked_stuck :
    {p q b : ℕ} {m e : Memory} → T (sound m) → Walked p q m b e → (b ≡ q → ⊥) → here b e ≡ false →
    ((f : Memory) → Takes (IsRow p q) m f → ⊥) × RowStuck p q m b
walked_stuck {b = b} {e = e} s w ne absent = (
  (λ f t. let rest = (w.onward f).0 t in both_ways (here b e) absent (here-left rest.parts b (row_start rest.is ne))),
  record {
    used = w.used;
    left = e;
    parts = w.parts;
    walk = w.walk;
    row = walk_row w.walk (sound-left w.parts s);
    end_unseen = w.end_unseen;
    not_end = ne;
    no_cell = absent;
  },
)

pub cell_found :
    {p q : ℕ} {e f : Memory} → T (sound e) → Parts (record { place = p; holds = q } ∷ []) f e → Takes (IsCell p q) e f
cell_found {p} {q} {e} s out =
    record {
      part = record { place = p; holds = q } ∷ [];
      parts = out;
      is = ((λ z. both_ways (here p e) (rw z (sound_nowhere e s)) (here_out out)), refl);
    }

pub cell_absent : {p q : ℕ} {e f : Memory} → here p e ≡ false → Takes (IsCell p q) e f → ⊥
cell_absent {p} {e = e} absent t = both_ways (here p e) absent (here_out (rw t.is.1 at t.parts))

pub cell_elsewhere :
    {p q r : ℕ} {e f g : Memory} → T (sound e) → Parts (record { place = p; holds = r } ∷ []) f e → (r ≡ q → ⊥) →
    Takes (IsCell p q) e g → ⊥
cell_elsewhere s out ne t = ne (ap (λ c. c.holds) (one_out out (rw t.is.1 at t.parts) s refl).0)

-- An atom is a cell or a row between the places that its names stand for.
module _ (n : Names) (a : Atom) (x y p q : ℕ) (m e : Memory) (from : p ≡ at n x) (to : q ≡ at n y) where
  at_places : (P : ℕ → ℕ → Type 0) → P p q → P (at n x) (at n y)
  at_places P t = subst (λ v. P (at n x) v) to (subst (λ u. P u q) from t)

  pub cell_taken : a ≡ cell x y → (r : Result Unit Place) → CellTaken p q m e r → AtomTaken n a m e r
  cell_taken is (Ok u) t = rw is (at_places (λ u v. Takes (IsCell u v) m e) t)
  cell_taken is (Err b) (none, start) =
      rw is (record { none = at_places (λ u v. (f : Memory) → Takes (IsCell u v) m f → ⊥) none; stuck = start ∙ from })

  pub row_taken : a ≡ row x y → (r : Result Unit Place) → RowTaken p q m e r → AtomTaken n a m e r
  row_taken is (Ok u) t = rw is (at_places (λ u v. Takes (IsRow u v) m e) t)
  row_taken is (Err b) (none, stuck) =
      rw is (record {
        none = at_places (λ u v. (f : Memory) → Takes (IsRow u v) m f → ⊥) none;
        stuck = at_places (λ u v. RowStuck u v m b.0) stuck;
      })
