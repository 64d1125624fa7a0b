-- What is reached from a name without an atom: one more name over one more row (`reach_more`); and from what is reached,
-- that the place is none of the atom's cells (`barred-..`).
use Rattle.std.proofs.Common.{◌≡◌, ℕ, ◌<◌, true, false, ◌||◌, T, eqb, ◌⊎◌, List, map, length, get_or, take, sym, ap, ◌∙◌, subst, subst₂, ⊎_elim, arith, length-take, eqb-true}
use lib.ListN.{length-map}
use Rattle.std.proofs.lemmas.List.{get_or-map, get_or-take}
use borrow.Author.Tests.{both_ways}
use Rattle.claims.specs.Claims.{Atom, cell, row}
use Rattle.claims.specs.Memory.{Names, at, Memory, here, sound, Dealt}
use Rattle.claims.specs.Meaning.{atom_of}
use Rattle.claims.specs.Words.{AtomBelow}
use Rattle.std.specs.List.{AllByRecursion}
use Rattle.std.proofs.ByRecursion.{All-from_get_or}
use Rattle.claims.specs.declared.parts.Atom.{Atom as CodeAtom}
use Rattle.memory.specs.Owners.{Owns, Passes, Empty, start, end}
use Rattle.memory.proofs.Dealt.{one_owner, owner, owns_place}
use Rattle.memory.proofs.Parts.{sound_nowhere}
use Rattle.linked.specs.Bits.{bit}
use Rattle.linked.specs.Stands.{Marked}
use Rattle.linked.specs.Spare.{spare}
use Rattle.linked.specs.Living.{atoms_of}
use Rattle.linked.specs.Reaching.{Reached, Barred, CellBegins}
use Rattle.linked.specs.Knowing.{Agrees}
use Rattle.linked.specs.declared.atoms.Live.{Live}
use Rattle.linked.specs.declared.known.Known.{Known}
use Rattle.linked.proofs.Carrying.{or_cases}

-- the atom number j of a list of live atoms
pub live-length : (l : Live) → length (atoms_of l) ≡ l.count
live-length l = length-map (take l.count l.atoms) atom_of ∙ omega (arith, length-take l.count l.atoms, l.full, l.few)

pub live_at : (l : Live) (j : ℕ) (d : Atom) → j < l.count → get_or (atoms_of l) j d ≡ atom_of (get_or l.atoms j spare)
live_at l j d h =
    get_or-map atom_of (take l.count l.atoms) j spare d (omega (arith, length-take l.count l.atoms, l.full, l.few)) ∙
    ap atom_of (get_or-take l.count l.atoms j spare h)

-- its names are below 64
pub live_below : (l : Live) → AllByRecursion (AtomBelow 64) (atoms_of l)
live_below l =
    All-from_get_or (AtomBelow 64) (atoms_of l) (row 0 0)
    (λ j h.
    let g : j < l.count = omega (arith, h, live-length l) in
    subst (AtomBelow 64) (sym (live_at l j (row 0 0) g)) (ends_below (atom_of (get_or l.atoms j spare)) (l.starts j g) (l.ends j g)))
  where
    ends_below : (a : Atom) → start a < 64 → end a < 64 → AtomBelow 64 a
    ends_below (cell x y) h k = (h, k)
    ends_below (row x y) h k = (h, k)

pub slice_at :
    (l : Live) (xs : List CodeAtom) → xs ≡ take l.count l.atoms → (j : ℕ) (d : CodeAtom) → j < length xs →
    get_or (atoms_of l) j (row 0 0) ≡ atom_of (get_or xs j d)
slice_at l xs e j d h = ap (λ u. get_or (map atom_of u) j (row 0 0)) (sym e) ∙ get_or-map atom_of xs j d (row 0 0) h

module _ (cs : List Atom) (e s : ℕ) where
  -- the name itself
  pub reach_first :
      (none : ℕ) → ((i : ℕ) → bit none i ≡ false) → (set : ℕ) → ((i : ℕ) → bit set i ≡ (bit none i || eqb i s)) → Reached cs e s set
  reach_first none empty set new n m sm o x b =
      ⊎_elim (λ t. absurd (both_ways _ (empty x) t)) (λ t. ap (at n) (eqb-true x s t)) (or_cases (bit none x) (eqb x s) (sym (new x) ∙ b))

  pub reach_more :
      (set more j x y : ℕ) → Reached cs e s set → (j ≡ e → ⊥) → j < length cs → get_or cs j (row 0 0) ≡ row x y → bit set x ≡ true →
      ((i : ℕ) → bit more i ≡ (bit set i || eqb i y)) → Reached cs e s more
  reach_more set more j x y r d h a bx new n m sm o i b =
      let p : Passes n (at n s) (row x y) = subst (Passes n (at n s)) a (one_owner sm o j (row 0 0) d h) in
      ⊎_elim (λ t. r n m sm o i t) (λ t. ap (at n) (eqb-true i y t) ∙ p (r n m sm o x bx)) (or_cases (bit set i) (eqb i y) (sym (new i) ∙ b))

-- the place is none of the atom's cells ..
module _ (k : Known) (cs : List Atom) (e s set : ℕ) (r : Reached cs e s set) where
  -- .. if it would be nowhere
  pub barred_nowhere : bit set 0 ≡ true → Barred k cs e s
  barred_nowhere b n m sm g o =
      both_ways (here 0 m) (sound_nowhere m sm) (subst (λ p. here p m ≡ true) (sym (r n m sm o 0 b)) (owns_place o))

  -- .. if another cell would be there
  pub barred_cell :
      (j x y : ℕ) → (j ≡ e → ⊥) → j < length cs → get_or cs j (row 0 0) ≡ cell x y → bit set x ≡ true → Barred k cs e s
  barred_cell j x y d h a b n m sm g o =
      let p : Passes n (at n s) (cell x y) = subst (Passes n (at n s)) a (one_owner sm o j (row 0 0) d h) in
      p (r n m sm o x b)

  pub barred_begins :
      (j : ℕ) (a : Atom) → (j ≡ e → ⊥) → j < length cs → get_or cs j (row 0 0) ≡ a → start a < 64 → CellBegins set a → Barred k cs e s
  barred_begins j (cell x y) d h a small b = barred_cell j x y d h a (b small)
  barred_begins j (row x y) d h a small b = elim b [ ]

  -- .. if two that are other would stand for it
  pub barred_other :
      (x y : ℕ) → x < 64 → y < 64 → bit set x ≡ true → bit set y ≡ true → Marked k.others x y → Barred k cs e s
  barred_other x y hx hy bx by t n m sm g o = g.other x y hx hy t (r n m sm o x bx ∙ sym (r n m sm o y by))

pub barred_same :
    (k : Known) (l m : Live) (e f s t : ℕ) → l ≡ m → e ≡ f → s ≡ t → Barred k (atoms_of l) e s → Barred k (atoms_of m) f t
barred_same k l m e f s t el ee es =
    let P : Live → ℕ → ℕ → Type 0 = λ u v w. Barred k (atoms_of u) v w in
    λ b. subst (λ u. P u f t) el (subst₂ (P l) ee es b)

pub reached_same :
    (set : ℕ) (l m : Live) (e f s t : ℕ) → l ≡ m → e ≡ f → s ≡ t → Reached (atoms_of l) e s set → Reached (atoms_of m) f t set
reached_same set l m e f s t el ee es =
    let P : Live → ℕ → ℕ → Type 0 = λ u v w. Reached (atoms_of u) v w set in
    λ b. subst (λ u. P u f t) el (subst₂ (P l) ee es b)

-- an atom that can't have a cell where it begins: the claim can't be, or its row is empty
module _ (k : Known) (cs : List Atom) (e x y : ℕ) (h : e < length cs) where
  pub never_cell :
      get_or cs e (row 0 0) ≡ cell x y → Barred k cs e x → (n : Names) (m : Memory) → T (sound m) → Agrees k n → Dealt n cs m → ⊥
  never_cell a b n m sm g d =
      let P : Atom → Type 0 = λ t. Empty n t ⊎ Owns n cs m e (at n (start t)) in
      ⊎_elim (λ z. z) (λ o. b n m sm g o) (subst P a (owner d e (row 0 0) h))

  pub empty_row :
      get_or cs e (row 0 0) ≡ row x y → Barred k cs e x →
      (n : Names) (m : Memory) → T (sound m) → Agrees k n → Dealt n cs m → at n x ≡ at n y
  empty_row a b n m sm g d =
      let P : Atom → Type 0 = λ t. Empty n t ⊎ Owns n cs m e (at n (start t)) in
      ⊎_elim (λ z. z) (λ o. absurd (b n m sm g o)) (subst P a (owner d e (row 0 0) h))

  pub round_row :
      (set : ℕ) → get_or cs e (row 0 0) ≡ row x y → Reached cs e x set → bit set y ≡ true →
      (n : Names) (m : Memory) → T (sound m) → Agrees k n → Dealt n cs m → at n x ≡ at n y
  round_row set a r b n m sm g d =
      let P : Atom → Type 0 = λ t. Empty n t ⊎ Owns n cs m e (at n (start t)) in
      ⊎_elim (λ z. z) (λ o. sym (r n m sm o y b)) (subst P a (owner d e (row 0 0) h))
