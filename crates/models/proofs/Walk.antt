-- From the generic memory to all others: names n have the pattern of g, and a memory is dealt out to the atoms cs for n.
--
-- Each atom of a claim that holds of the generic memory has some of its cells, and these are of some atoms of cs.
-- It can have the parts of these atoms in the other memory too, if it fits them:
-- a cell fits only cells, and a row fits those that do not have a cell at its end.
-- atom_carries: so it can be taken out of the other memory too; walk: and so can all, one after the other.
use Rattle.std.proofs.Common.{◌≡◌, ℕ, ◌<◌, true, false, List, [], sym, refl, ap, ◌∙◌}
use Rattle.std.specs.List.{AllByRecursion}
use Rattle.std.proofs.lemmas.Bool.{both_ways}
use Rattle.claims.specs.Claims.{Atom, cell, row}
use Rattle.claims.specs.Words.{AtomBelow}
use Rattle.claims.specs.Memory.{Names, at, Memory, here, Parts, IsRow, no_cells, some_cells, AtomHolds, Dealt, no_more, one_more}
use Rattle.memory.specs.Owners.{start, end, Empty}
use Rattle.memory.specs.Taking.{Takes}
use Rattle.memory.proofs.Parts.{parts_assoc, parts_regroup, parts_none, here_out, here_right}
use Rattle.memory.proofs.Rows.{row_join, takes_row_none}
use Rattle.memory.proofs.Atoms.{atom_empty, cell_here}
use Rattle.models.specs.Generic.{generic, Like}
use Rattle.models.proofs.Like.{start_below, end_below, like_empty}
use Rattle.models.proofs.Dealing.{DealtEach, none_each, one_each, each_take_out}
use Rattle.models.proofs.Generic.{Linked, is_empty, is_full, linked_cases, none_more, link_more, generic_first}

abbrev pub IsCell : Atom → Type 0
IsCell (cell x y) = Unit {0}
IsCell (row x y) = ⊥

-- the first atom can have the part of the second
abbrev pub Fit : Names → Atom → Atom → Memory → Type 0
Fit n (cell x y) e part = IsCell e
Fit n (row x y) e part = here (at n y) part ≡ false

-- an atom and a row from its end join, if the atom has no cell at the row's end
pub atom_join :
    {a b m : Memory} (n : Names) (x : Atom) (q : ℕ) → Parts a b m → AtomHolds n x a → here q a ≡ false →
    IsRow (at n (end x)) q b → IsRow (at n (start x)) q m
atom_join {a} n (cell x y) q t h k w =
    some_cells (λ e. both_ways (here q a) k (rw e at (cell_here n x y a h))) h.0 (rw h.1 at t) w
atom_join n (row x y) q t h k w = row_join t h w k

-- cells with the same ends hold of the same
pub cell_same :
    (n : Names) (e : Atom) (x y : ℕ) (part : Memory) → IsCell e → at n (start e) ≡ at n x → at n (end e) ≡ at n y →
    AtomHolds n e part → AtomHolds n (cell x y) part
cell_same n (cell u z) x y part is p q h = rw (← p, ← q) h
cell_same n (row u z) x y part is p q h = absurd is

module _
    (k : ℕ) (g n : Names) (like : Like k g n) (R : Atom → Memory → Type 0)
    (known : (e : Atom) (part : Memory) → R e part → AtomHolds n e part × AtomBelow k e)
  where
    -- where the generic memory has nothing, there is nothing
    pub nothing_left : {cs : List Atom} {b : Memory} → DealtEach R cs b → generic g cs ≡ [] → b ≡ []
    nothing_left none_each e = refl
    nothing_left {b = b} (one_each {a = a} {more = more} {part = part} {rest = rest} t r d) e =
        go (λ h. nothing_left d h) (linked_cases g a)
      where
        go : (generic g more ≡ [] → rest ≡ []) → Linked g a → b ≡ []
        go later (is_empty no_cell none) =
            let (holds, below) = known a part r in
            let no_part = atom_empty n a part ((like_empty k g n like a below).0 no_cell) holds in
            sym (parts_none (rw no_part at t)) ∙ later (sym (none_more g a (generic g more) none) ∙ e)
        go later (is_full full some) = let never = sym (link_more g a (generic g more) some) ∙ e in cc

    -- something can be taken out of b, which leaves what the atoms have of which e is the generic memory
    pub record Carried (P : Memory → Type 0) (e b : Memory) : Type 0 where
      pub left : List Atom
      pub is_generic : generic g left ≡ e
      pub rest : Memory
      pub takes : Takes P b rest
      pub dealt : DealtEach R left rest

    -- with one part more
    carried_more :
        {P P' : Memory → Type 0} {e part rest b : Memory} → Parts part rest b → ((a m : Memory) → Parts part a m → P a → P' m) →
        Carried P e rest → Carried P' e b
    carried_more t f c =
        let (whole, g1, g2) = parts_regroup t c.takes.parts in
        record {
          left = c.left;
          is_generic = c.is_generic;
          rest = c.rest;
          takes = record { part = whole; parts = g2; is = f c.takes.part whole g1 c.takes.is };
          dealt = c.dealt;
        }

    -- the atom x fits each atom of which it has the cell in the part a of the generic memory
    abbrev FitsAll : Atom → Memory → Type 0
    FitsAll x a = (y : Atom) (part : Memory) → R y part → (Empty g y → ⊥) → here (at g (start y)) a ≡ true → Fit n x y part

    row_carries :
        {p q : ℕ} {a : Memory} → IsRow p q a → (s t : ℕ) → s < k → t < k → p ≡ at g s → q ≡ at g t → (cs : List Atom) →
        {e b : Memory} → Parts a e (generic g cs) → DealtEach R cs b → FitsAll (row s t) a →
        Carried (IsRow (at n s) (at n t)) e b
    row_carries (no_cells same) s t ls lt ps qt cs {b = b} u d fits =
        let none = (takes_row_none ((like s t ls lt).0 (sym ps ∙ (same ∙ qt)))).1 refl in
        record { left = cs; is_generic = sym (parts_none u); rest = b; takes = none; dealt = d }
    row_carries (some_cells {p = p} {r = r} {b = a} ne nz u w) s t ls lt ps qt cs v d fits =
        let (more, v1, v2) = parts_assoc v u in
        let first = generic_first g cs v1 in
        let x = first.atom in
        let (rest, out, d2) = each_take_out first.put d in
        let (holds, below) = known x out.part out.is in
        let at-start : at g (start x) ≡ p = ap (λ c. c.place) first.is_link in
        let at-end : r ≡ at g (end x) = ap (λ c. c.holds) (sym first.is_link) in
        let same_start = (like s (start x) ls (start_below x below)).0 (sym ps ∙ sym at-start) in
        let absent = fits x out.part out.is first.full (rw at-start (here_out u)) in
        let fits-others : FitsAll (row (end x) t) a = λ y part i full h. fits y part i full (here_right u (at g (start y)) h) in
        let v3 = rw (← first.left) at v2 in
        let others = row_carries w (end x) t (end_below x below) lt at-end qt first.others v3 d2 fits-others in
        carried_more out.parts (λ a m t1 w1. rw same_start (atom_join n x (at n t) t1 holds absent w1)) others

    pub atom_carries :
        (x : Atom) → AtomBelow k x → {a : Memory} → AtomHolds g x a → (cs : List Atom) {e b : Memory} →
        Parts a e (generic g cs) → DealtEach R cs b → FitsAll x a → Carried (AtomHolds n x) e b
    atom_carries (row x y) below h cs u d fits = row_carries h x y below.0 below.1 refl refl cs u d fits
    atom_carries (cell x y) below {a} h cs u d fits =
        let first = generic_first g cs (rw h.1 at u) in
        let e = first.atom in
        let (rest, out, d2) = each_take_out first.put d in
        let (holds, e-below) = known e out.part out.is in
        let at-start : at g (start e) ≡ at g x = ap (λ c. c.place) first.is_link in
        let at-end : at g (end e) ≡ at g y = ap (λ c. c.holds) first.is_link in
        let same_start = (like (start e) x (start_below e e-below) below.0).0 at-start in
        let same_end = (like (end e) y (end_below e e-below) below.1).0 at-end in
        let is-cell = fits e out.part out.is first.full (rw at-start (cell_here g x y a h)) in
        let own = cell_same n e x y out.part is-cell same_start same_end holds in
        record {
          left = first.others;
          is_generic = first.left;
          rest = rest;
          takes = record { part = out.part; parts = out.parts; is = own };
          dealt = d2;
        }

    pub walk :
        (Q : Atom → Memory → Type 0) {ds : List Atom} {m : Memory} → DealtEach Q ds m → AllByRecursion (AtomBelow k) ds →
        (cs : List Atom) {b : Memory} → m ≡ generic g cs → DealtEach R cs b →
        ((x : Atom) (a : Memory) → Q x a → AtomHolds g x a × FitsAll x a) → Dealt n ds b
    walk Q none_each below cs e d fits = rw (nothing_left d (sym e)) no_more
    walk Q (one_each {a = x} {part = a} t q more) below cs e d fits =
        let (holds, fits-x) = fits x a q in
        let c = atom_carries x below.0 holds cs (rw e at t) d fits-x in
        one_more c.takes.parts c.takes.is (walk Q more below.1 c.left (sym c.is_generic) c.dealt fits)
