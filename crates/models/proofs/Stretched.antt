-- The generic memory with one row stretched: two cells through a spare place, instead of one.
--
-- stretched_out: the two cells can be taken out, which leaves the generic memory of the other atoms.
-- stretched_sound, stretched_dealt: a stretched memory is sound, and is dealt out to the atoms, as the generic one is.
-- not_inside: what holds of both does not have the row in a part that never has a cell at the spare place.
use Rattle.std.proofs.Common.{◌≡◌, ℕ, suc, ◌<◌, true, false, T, eqb, List, [], ◌∷◌, length, sym, refl, ⊎_elim, arith}
use Rattle.std.proofs.lemmas.Bool.{both_ways, ne_eqb, or_from, or_right}
use Rattle.claims.specs.Claims.{Atom, row}
use Rattle.claims.specs.Memory.{Names, at, Cell, Memory, here, sound, Parts, none_p, left_p, IsRow, no_cells, some_cells, AtomHolds, Dealt}
use Rattle.memory.specs.Taking.{Put, put_here, put_later}
use Rattle.memory.proofs.Parts.{parts_comm, parts_assoc, none_parts, here-left, here_neither, absent_whole, here_first, here_out, first_sound, sound_right, sound_nowhere, parts_disjoint, sound_whole, Disjoint}
use Rattle.memory.proofs.Dealt.{dealt_take_out, dealt_put_in, dealt_same}
use Rattle.models.specs.Generic.{link, linked, generic, stretched}
use Rattle.models.specs.Matching.{Placed}
use Rattle.models.proofs.Parts.{append_parts, parts_behind, here_cons, here_only, cell_left}
use Rattle.models.proofs.Generic.{linked_full, generic_out, generic_dealt}

-- the cells of a row from p through t to q
abbrev pub two : ℕ → ℕ → ℕ → Memory
two p t q = record { place = p; holds = t } ∷ record { place = t; holds = q } ∷ []

pub stretched_out :
    {x y : ℕ} {others cs : List Atom} (g : Names) (t : ℕ) → (at g x ≡ at g y → ⊥) → Put (row x y) others cs →
    (i : ℕ) × (i < length cs) × Parts (two (at g x) t (at g y)) (generic g others) (stretched g cs i t)
stretched_out {x} {y} {others} g t full put_here =
    (0, omega arith, rw (ne_eqb (at g x) (at g y) full) (append_parts (two (at g x) t (at g y)) (generic g others)))
stretched_out g t full (put_later {c = c} u) =
    let (i, l, v) = stretched_out g t full u in
    (suc i, omega arith, parts_behind (linked g c) v)

-- a place at which a row to y can have its second cell: not its end, not nowhere, and no cell is there
pub record Spare (g : Names) (cs : List Atom) (y t : ℕ) : Type 0 where
  pub somewhere : t ≡ 0 → ⊥
  pub before_end : t ≡ at g y → ⊥
  pub absent : here t (generic g cs) ≡ false

module _
    (g : Names) (cs : List Atom) (s : T (sound (generic g cs))) (x y : ℕ) (others : List Atom) (put : Put (row x y) others cs)
    (full : at g x ≡ at g y → ⊥) (t : ℕ) (spare : Spare g cs y t)
  where
    -- the row's one cell
    out : Parts (link g (row x y) ∷ []) (generic g others) (generic g cs)
    out = rw (linked_full g (row x y) full) at (generic_out g put)

    abbrev first : Cell ℕ
    first = record { place = at g x; holds = t }

    abbrev second : Cell ℕ
    second = record { place = t; holds = at g y }

    other_place : at g x ≡ t → ⊥
    other_place e = both_ways (here t (generic g cs)) spare.absent (rw e at (here_out out))

    start_somewhere : at g x ≡ 0 → ⊥
    start_somewhere e = both_ways (here 0 (generic g cs)) (sound_nowhere (generic g cs) s) (rw e at (here_out out))

    two_row : IsRow (at g x) (at g y) (two (at g x) t (at g y))
    two_row =
        let last = some_cells spare.before_end spare.somewhere (left_p none_p) (no_cells refl) in
        some_cells full start_somewhere (left_p (none_parts (second ∷ []))) last

    two_sound : T (sound (two (at g x) t (at g y)))
    two_sound =
        let apart = or_from (eqb t (at g x)) false (ne_eqb t (at g x) (λ e. other_place (sym e))) refl in
        let second-sound = first_sound second [] (record { somewhere = spare.somewhere; alone = refl; others = tt }) in
        first_sound first (second ∷ []) (record { somewhere = start_somewhere; alone = apart; others = second-sound })

    two_apart : Disjoint (two (at g x) t (at g y)) (generic g others)
    two_apart p h = ⊎_elim at_first (λ k. at_second (here_only p second k)) (here_cons p first (second ∷ []) h)
      where
        at_first : at g x ≡ p → here p (generic g others) ≡ false
        at_first e = rw (← e) (parts_disjoint out s (at g x) (here_first (link g (row x y)) []))

        at_second : t ≡ p → here p (generic g others) ≡ false
        at_second e = rw (← e) (here_neither out t spare.absent).1

    pub stretched_sound : {m : Memory} → Parts (two (at g x) t (at g y)) (generic g others) m → T (sound m)
    stretched_sound u = sound_whole u two_sound (sound_right out s) two_apart

    pub stretched_dealt : {m : Memory} → Parts (two (at g x) t (at g y)) (generic g others) m → Dealt g cs m
    stretched_dealt u =
        let others-dealt = generic_dealt g others (sound_right out s) in
        dealt_put_in put (record { part = two (at g x) t (at g y); parts = u; is = two_row }) others-dealt

    -- What holds of both memories has a part in each for every atom. The others' part is the same in both, by precision;
    -- so the cell at the spare place is this atom's.
    pub not_inside :
        {ds : List Atom} {a : Atom} {part m : Memory} → Placed g ds (generic g cs) a part → here (at g x) part ≡ true →
        Parts (two (at g x) t (at g y)) (generic g others) m → Dealt g ds m →
        ((b : Memory) → AtomHolds g a b → here t b ≡ false) → ⊥
    not_inside placed h u d outside =
        let (rest, takes, others-dealt) = dealt_take_out placed.put d in
        let (left, v) = cell_left placed.parts out s h in
        let (more, w, _) = parts_assoc (parts_comm u) (parts_comm v) in
        let same = dealt_same w (parts_comm takes.parts) (stretched_sound u) placed.dealt others-dealt in
        let absent = (here_neither placed.parts t spare.absent).1 in
        let there = or_right (eqb (at g x) t) (here t (second ∷ [])) (here_first second []) in
        let absent-too = absent_whole takes.parts t (outside takes.part takes.is) (rw (← same) absent) in
        both_ways (here t _) absent-too (here-left u t there)
