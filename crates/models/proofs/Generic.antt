-- The generic memory: one cell for each atom that is not empty.
--
-- linked_cases: an atom is an empty row and has no cells, or it has one.
-- generic_out: an atom's cell can be taken out; generic_first: and each cell is some atom's.
-- generic_places: if the atoms hold of names alike, then these have a cell at each name where the generic memory has one.
-- generic_sound, generic_dealt: so the generic memory is sound, and is dealt out to the atoms.
use Rattle.std.proofs.Common.{◌≡◌, ℕ, ◌<◌, ◌≤◌, true, T, List, [], ◌∷◌, ◌++◌, sym, refl, ap, ◌∙◌, ⊎_elim}
use Rattle.std.specs.List.{AllByRecursion}
use Rattle.std.proofs.lemmas.Bool.{both_ways, cases_eq, eq-eqb, ne_eqb, false≢true}
use Rattle.claims.specs.Claims.{Atom, cell, row}
use Rattle.claims.specs.Words.{AtomBelow}
use Rattle.claims.specs.Memory.{Names, at, Cell, Memory, here, sound, Parts, no_cells, some_cells, AtomHolds, Dealt, no_more, one_more}
use Rattle.memory.specs.Owners.{start, Empty}
use Rattle.memory.specs.Taking.{Put, put_here, put_later}
use Rattle.memory.proofs.Parts.{all_parts, here-left, here_right, not_true_false, sound_first, first_sound, sound-left, sound_right, sound_nowhere, parts_disjoint}
use Rattle.memory.proofs.Atoms.{atom_start, empty_atom}
use Rattle.models.specs.Generic.{link, linked, generic, Like}
use Rattle.models.proofs.Parts.{append_parts, parts_behind, out_first, here_cons}
use Rattle.models.proofs.Like.{start_below, like_nowhere, like_empty}

-- an atom is an empty row and has no cells, or it has one
pub data Linked (g : Names) (a : Atom) : Type 0 where
  is_empty : Empty g a → linked g a ≡ [] → Linked g a
  is_full : (Empty g a → ⊥) → linked g a ≡ link g a ∷ [] → Linked g a

pub linked_cases : (g : Names) (a : Atom) → Linked g a
linked_cases g (cell x y) = is_full (λ e. e) refl
linked_cases g (row x y) = ⊎_elim empty full (cases_eq (at g x) (at g y))
  where
    empty : at g x ≡ at g y → Linked g (row x y)
    empty e = is_empty e (rw (eq-eqb (at g x) (at g y) e) refl)

    full : (at g x ≡ at g y → ⊥) → Linked g (row x y)
    full ne = is_full ne (rw (ne_eqb (at g x) (at g y) ne) refl)

pub linked_full : (g : Names) (a : Atom) → (Empty g a → ⊥) → linked g a ≡ link g a ∷ []
linked_full g a full = go (linked_cases g a)
  where
    go : Linked g a → linked g a ≡ link g a ∷ []
    go (is_empty no_cell e) = absurd (full no_cell)
    go (is_full _ e) = e

-- what its cells add to a memory
pub link_more : (g : Names) (a : Atom) (m : Memory) → linked g a ≡ link g a ∷ [] → linked g a ++ m ≡ link g a ∷ m
link_more g a m e = ap (λ l. l ++ m) e

pub none_more : (g : Names) (a : Atom) (m : Memory) → linked g a ≡ [] → linked g a ++ m ≡ m
none_more g a m e = ap (λ l. l ++ m) e

pub generic_out :
    {e : Atom} {others cs : List Atom} (g : Names) → Put e others cs → Parts (linked g e) (generic g others) (generic g cs)
generic_out {e} {others} g put_here = append_parts (linked g e) (generic g others)
generic_out g (put_later {c = c} u) = parts_behind (linked g c) (generic_out g u)

-- the cell c of the generic memory of cs is one of these atoms', and b is the generic memory of the others
pub record OfAtom (g : Names) (c : Cell ℕ) (b : Memory) (cs : List Atom) : Type 0 where
  pub atom : Atom
  pub others : List Atom
  pub put : Put atom others cs
  pub full : Empty g atom → ⊥
  pub is_link : link g atom ≡ c
  pub left : generic g others ≡ b

behind :
    {c : Cell ℕ} {b b' : Memory} {cs : List Atom} (g : Names) (a : Atom) → linked g a ++ b' ≡ b → OfAtom g c b' cs →
    OfAtom g c b (a ∷ cs)
behind g a e o =
    record {
      atom = o.atom;
      others = a ∷ o.others;
      put = put_later o.put;
      full = o.full;
      is_link = o.is_link;
      left = ap (λ m. linked g a ++ m) o.left ∙ e;
    }

pub generic_first : {c : Cell ℕ} (g : Names) (cs : List Atom) {b : Memory} → Parts (c ∷ []) b (generic g cs) → OfAtom g c b cs
generic_first g [] t = elim t [ ]
generic_first {c} g (a ∷ cs) {b} t = go (λ b' u. generic_first g cs u) (linked_cases g a)
  where
    go : ((b' : Memory) → Parts (c ∷ []) b' (generic g cs) → OfAtom g c b' cs) → Linked g a → OfAtom g c b (a ∷ cs)
    go later (is_empty no_cell e) = behind g a (none_more g a b e) (later b (rw (none_more g a (generic g cs) e) at t))
    go later (is_full full e) = ⊎_elim own other (out_first (rw (link_more g a (generic g cs) e) at t))
      where
        own : (link g a ≡ c) × (generic g cs ≡ b) → OfAtom g c b (a ∷ cs)
        own h = record { atom = a; others = cs; put = put_here; full = full; is_link = h.0; left = h.1 }

        other : (b' : Memory) × (b ≡ link g a ∷ b') × Parts (c ∷ []) b' (generic g cs) → OfAtom g c b (a ∷ cs)
        other h = behind g a (link_more g a h.0 e ∙ sym h.1) (later h.0 h.2)

module _ (k : ℕ) (g n : Names) (some_names : 1 ≤ k) (like : Like k g n) where
  -- an atom that is not empty has a cell at its start
  pub full_start :
      (a : Atom) (part : Memory) → AtomBelow k a → (Empty g a → ⊥) → AtomHolds n a part → here (at n (start a)) part ≡ true
  full_start a part below full h = ⊎_elim (λ e. absurd (full ((like_empty k g n like a below).1 e))) (λ p. p) (atom_start n a part h)

  pub generic_places :
      {cs : List Atom} {b : Memory} → AllByRecursion (AtomBelow k) cs → Dealt n cs b → (x : ℕ) → x < k →
      here (at g x) (generic g cs) ≡ true → here (at n x) b ≡ true
  generic_places below no_more x l p = absurd (false≢true p)
  generic_places {cs = a ∷ cs} {b} below (one_more {part = part} t h d) x l p =
      go (λ q. here_right t (at n x) (generic_places below.1 d x l q)) (linked_cases g a)
    where
      own : (Empty g a → ⊥) → at g (start a) ≡ at g x → here (at n x) b ≡ true
      own full e =
          let same_place = (like (start a) x (start_below a below.0) l).0 e in
          here-left t (at n x) (rw same_place at (full_start a part below.0 full h))

      go : (here (at g x) (generic g cs) ≡ true → here (at n x) b ≡ true) → Linked g a → here (at n x) b ≡ true
      go later (is_empty no_cell e) = later (rw (none_more g a (generic g cs) e) at p)
      go later (is_full full e) =
          let found = here_cons (at g x) (link g a) (generic g cs) (rw (link_more g a (generic g cs) e) at p) in
          ⊎_elim (own full) later found

  pub generic_sound :
      {cs : List Atom} {b : Memory} → AllByRecursion (AtomBelow k) cs → T (sound b) → Dealt n cs b → T (sound (generic g cs))
  generic_sound below s no_more = tt
  generic_sound {cs = a ∷ cs} below s (one_more {part = part} {rest = rest} t h d) =
      go (generic_sound below.1 (sound_right t s) d) (linked_cases g a)
    where
      l : start a < k
      l = start_below a below.0

      somewhere : here (at n (start a)) part ≡ true → at g (start a) ≡ 0 → ⊥
      somewhere own z =
          let at-nowhere = rw ((like_nowhere k g n like some_names (start a) l).0 z) at own in
          both_ways (here 0 part) (sound_nowhere part (sound-left t s)) at-nowhere

      alone : here (at n (start a)) part ≡ true → here (at g (start a)) (generic g cs) ≡ true → ⊥
      alone own p =
          let absent = parts_disjoint t s (at n (start a)) own in
          both_ways (here (at n (start a)) rest) absent (generic_places below.1 d (start a) l p)

      go : T (sound (generic g cs)) → Linked g a → T (sound (generic g (a ∷ cs)))
      go others (is_empty no_cell e) = rw (none_more g a (generic g cs) e) others
      go others (is_full full e) =
          let own = full_start a part below.0 full h in
          let absent = not_true_false (here (at g (start a)) (generic g cs)) (alone own) in
          let first = first_sound (link g a) (generic g cs) (record { somewhere = somewhere own; alone = absent; others = others }) in
          rw (link_more g a (generic g cs) e) first

-- an atom that is not empty holds of its cell
pub link_holds : (g : Names) (a : Atom) → (Empty g a → ⊥) → (at g (start a) ≡ 0 → ⊥) → AtomHolds g a (link g a ∷ [])
link_holds g (cell x y) full somewhere = (somewhere, refl)
link_holds g (row x y) full somewhere = some_cells full somewhere (all_parts (link g (row x y) ∷ [])) (no_cells refl)

pub generic_dealt : (g : Names) (cs : List Atom) → T (sound (generic g cs)) → Dealt g cs (generic g cs)
generic_dealt g [] s = no_more
generic_dealt g (a ∷ cs) s =
    let t = append_parts (linked g a) (generic g cs) in
    one_more t (own (linked_cases g a)) (generic_dealt g cs (sound_right t s))
  where
    own : Linked g a → AtomHolds g a (linked g a)
    own (is_empty no_cell e) = rw e (empty_atom g a no_cell)
    own (is_full full e) =
        let first = sound_first (link g a) (generic g cs) (rw (link_more g a (generic g cs) e) at s) in
        rw e (link_holds g a full first.somewhere)
