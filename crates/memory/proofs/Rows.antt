-- Rows of cells.
--
-- row_end, row_nowhere: a row has no cell at its end, and none nowhere.
-- row_same, row_first, row_start: a row from a place to itself has no cells, any other has its first at its start.
-- row_join: rows join, if the first has no cell at the end of the second.
-- rows_same: two rows from p to q in one sound memory are the same cells.
-- takes_row_none, takes_row_cell and takes_row_row: what is left when a row is taken out of a memory,
-- when it has no cells, after its first cell, and after a row that it begins with.
use Rattle.std.proofs.Common.{◌≡◌, ℕ, true, false, T, ◌↔◌, [], ◌∷◌, sym, refl, ap, subst}
use Rattle.std.proofs.lemmas.Bool.{both_ways}
use Rattle.claims.specs.Memory.{Memory, here, sound, Parts, IsRow, no_cells, some_cells}
use Rattle.memory.specs.Taking.{Takes}
use Rattle.memory.proofs.Parts.{parts_comm, parts_assoc, parts_regroup, parts_none, none_parts, sound_right, rest_same, one_out, here_out, absent_out, out_absent, sound_nowhere}

pub row_end : {p q : ℕ} {m : Memory} → IsRow p q m → here q m ≡ false
row_end (no_cells e) = refl
row_end (some_cells {q = q} ne nz t w) = absent_out t q ne (row_end w)

pub row_nowhere : {p q : ℕ} {m : Memory} → IsRow p q m → here 0 m ≡ false
row_nowhere (no_cells e) = refl
row_nowhere (some_cells ne nz t w) = absent_out t 0 nz (row_nowhere w)

pub row_same : {p q : ℕ} {m : Memory} → IsRow p q m → p ≡ q → m ≡ []
row_same (no_cells e) h = refl
row_same (some_cells ne nz t w) h = absurd (ne h)

-- the first cell of a row from p to q, and the row of the others
pub record FirstOfRow (p q : ℕ) (m : Memory) : Type 0 where
  pub next : ℕ
  pub others : Memory
  pub somewhere : p ≡ 0 → ⊥
  pub out : Parts (record { place = p; holds = next } ∷ []) others m
  pub row : IsRow next q others

pub row_first : {p q : ℕ} {m : Memory} → IsRow p q m → (p ≡ q → ⊥) → FirstOfRow p q m
row_first (no_cells e) ne = absurd (ne e)
row_first (some_cells {r = r} {b = b} _ nz t w) ne = record { next = r; others = b; somewhere = nz; out = t; row = w }

pub row_start : {p q : ℕ} {m : Memory} → IsRow p q m → (p ≡ q → ⊥) → here p m ≡ true
row_start w ne = here_out (row_first w ne).out

pub row_join :
    {p q r : ℕ} {m a b : Memory} → Parts a b m → IsRow p q a → IsRow q r b → here r a ≡ false → IsRow p r m
row_join t (no_cells e) v h = rw e (rw (← parts_none t) v)
row_join {r = r} t (some_cells ne nz u w) v h =
    let (e, x, y) = parts_assoc t u in
    let (far, k) = out_absent u r h in
    some_cells far nz x (row_join y w v k)

-- A row with no cells takes nothing.
pub takes_row_none : {p q : ℕ} {m e : Memory} → p ≡ q → Takes (IsRow p q) m e ↔ (e ≡ m)
takes_row_none {m = m} same = (
  (λ t. parts_none (rw (row_same t.is same) at t.parts)),
  λ same_memory. record { part = []; parts = rw same_memory (none_parts m); is = no_cells same },
)

-- A row that starts at a cell takes this cell and a row from where it leads.
pub takes_row_cell :
    {p q r : ℕ} {m b e : Memory} → Parts (record { place = p; holds = r } ∷ []) b m → T (sound m) → (p ≡ q → ⊥) →
    Takes (IsRow p q) m e ↔ Takes (IsRow r q) b e
takes_row_cell {p} {q} {m = m} out s ne = (
  (λ t.
      let first = row_first t.is ne in
      let (g, g1, g2) = parts_assoc t.parts first.out in
      let (same-cell, same_rest) = one_out g1 out s refl in
      record {
        part = first.others;
        parts = rw (← same_rest) g2;
        is = subst (λ x. IsRow x q first.others) (ap (λ c. c.holds) same-cell) first.row;
      }),
  λ t.
      let (g, g1, g2) = parts_regroup out t.parts in
      let somewhere : p ≡ 0 → ⊥ = λ z. both_ways (here p m) (rw z (sound_nowhere m s)) (here_out out) in
      record { part = g; parts = g2; is = some_cells ne somewhere g1 t.is },
)

-- A row that starts where another does takes that one and a row from its end, if the other has no cell at the end of both.
pub takes_row_row :
    {p q r : ℕ} {m a b e : Memory} → Parts a b m → T (sound m) → IsRow p r a → here q a ≡ false →
    Takes (IsRow p q) m e ↔ Takes (IsRow r q) b e
takes_row_row {q = q} {b = b} {e = e} t s w h = (
  go t s w h,
  λ k. let (g, g1, g2) = parts_regroup t k.parts in record { part = g; parts = g2; is = row_join g1 w k.is h },
)
  where
    go :
        {p r : ℕ} {m a : Memory} → Parts a b m → T (sound m) → IsRow p r a → here q a ≡ false → Takes (IsRow p q) m e →
        Takes (IsRow r q) b e
    go t s (no_cells same) h k = rw (← same, parts_none t) k
    go t s (some_cells ne nz u w) h k =
        let (g, g1, g2) = parts_assoc t u in
        let (far, absent) = out_absent u q h in
        go g2 (sound_right g1 s) w absent ((takes_row_cell g1 s far).0 k)

-- Two rows from p to q in one sound memory are the same cells.
pub rows_same :
    {p q : ℕ} {m a b e f : Memory} → Parts a e m → Parts b f m → T (sound m) → IsRow p q a → IsRow p q b → a ≡ b
rows_same t u s v w =
    let rest = (takes_row_row t s v (row_end v)).0 (record { part = _; parts = u; is = w }) in
    rest_same (parts_comm t) (parts_comm u) s (sym ((takes_row_none refl).0 rest))
