-- From a match of the second claim's atoms with the first's to all names of the pattern; and what a failed match shows.
--
-- generic_says: where a claim holds, the generic memory of the pattern is sound, and the claim holds of it.
-- vacuous: so if it does not hold of that, all follows from it.
-- matched: it follows, if the second claim holds of the generic memory and matches.
-- can_have_or_stretches: if an atom cannot have another's part, then that is a row, and stretches through a place
-- where the first never has a cell; unmatched: then the stretched memory is against it.
use Rattle.std.proofs.Common.{◌≡◌, ℕ, ◌<◌, ◌≤◌, true, false, T, ◌⊎◌, List, refl, ap, inl, inr, ⊎_elim, arith}
use Rattle.std.specs.List.{AllByRecursion}
use Rattle.std.proofs.lemmas.Bool.{both_ways, cases_eq, cases_Bool}
use Rattle.claims.specs.Claims.{Atom, cell, row, Claim}
use Rattle.claims.specs.Words.{AtomBelow, Fits}
use Rattle.claims.specs.Memory.{Names, at, Memory, here, sound, AtomHolds, Dealt, Says}
use Rattle.memory.specs.Owners.{start, Empty}
use Rattle.memory.specs.Taking.{Put}
use Rattle.memory.proofs.Parts.{parts_comm, parts_disjoint, here_either, not_true_false}
use Rattle.memory.proofs.Rows.{row_end, row_nowhere}
use Rattle.memory.proofs.Atoms.{cell_only}
use Rattle.models.specs.Generic.{link, generic, stretched, Trial, through, Like}
use Rattle.models.specs.Follows.{FollowsLike}
use Rattle.models.specs.Matching.{Placed, Matches, CanHave, cell_cell, row_cell, ends_nowhere, same_end, cell_there}
use Rattle.models.proofs.Parts.{here_only, cell_at}
use Rattle.models.proofs.Dealing.{dealt_each, all_put}
use Rattle.models.proofs.Like.{like_sym, like_nowhere, pures_like}
use Rattle.models.proofs.Generic.{linked_full, generic_out, generic_first, generic_places, generic_sound, generic_dealt}
use Rattle.models.proofs.Stretched.{Spare, stretched_out, stretched_sound, stretched_dealt, not_inside}
use Rattle.models.proofs.Decidable.{Decided}
use Rattle.models.proofs.Walk.{Fit, walk}

module _
    (k : ℕ) (g : Names) (c : Claim) (some_names : 1 ≤ k) (c-fits : Fits k c) (n : Names) (m : Memory) (like : Like k g n)
    (s : T (sound m)) (says : Says n m c)
  where
    pub generic_says : T (sound (generic g c.atoms)) × Says g (generic g c.atoms) c
    generic_says =
        let whole-sound = generic_sound k g n some_names like c-fits.atoms_below s says.atoms in
        let c-pures = pures_like k n g (like_sym k g n like) c.pures c-fits.pures_below says.pures in
        (whole-sound, record { pures = c-pures; atoms = generic_dealt g c.atoms whole-sound })

    -- where another atom has a cell in the generic memory, y has none
    start_outside :
        (y : Atom) (part : Memory) (t : ℕ) → t < k → Placed n c.atoms m y part → (Empty g y → ⊥) →
        (at g (start y) ≡ at g t → ⊥) → here (at g t) (generic g c.atoms) ≡ true → here (at n t) part ≡ false
    start_outside y part t l placed full elsewhere h =
        let others-Below = (all_put (AtomBelow k) placed.put c-fits.atoms_below).1 in
        let out = rw (linked_full g y full) at (generic_out g placed.put) in
        ⊎_elim (λ own. absurd (elsewhere (here_only (at g t) (link g y) own))) (other others-Below) (here_either out (at g t) h)
      where
        other : AllByRecursion (AtomBelow k) placed.others → here (at g t) (generic g placed.others) ≡ true → here (at n t) part ≡ false
        other below own =
            let there = generic_places k g n some_names like below placed.dealt t l own in
            parts_disjoint (parts_comm placed.parts) s (at n t) there

    -- what can have the parts for g fits them for n
    can_have_fit :
        {x y : Atom} (ds : List Atom) (a part : Memory) → CanHave g c.atoms x y → Placed g ds (generic g c.atoms) x a →
        Placed n c.atoms m y part → AtomBelow k x → AtomBelow k y → (Empty g y → ⊥) → here (at g (start y)) a ≡ true →
        Fit n x y part
    can_have_fit ds a part cell_cell p q xb yb full h = tt
    can_have_fit ds a part (row_cell {t = t} {u = u} {z = z}) p q xb yb full h =
        not_true_false (here (at n t) part) λ j.
        let same_place = (like u t yb.0 xb.1).1 (cell_only n u z (at n t) part q.holds j) in
        both_ways (here (at g t) a) (row_end p.holds) (rw same_place at h)
    can_have_fit ds a part (ends_nowhere {t = t} e) p q xb yb full h =
        rw ((like_nowhere k g n like some_names t xb.1).0 e) (row_nowhere q.holds)
    can_have_fit ds a part (same_end {t = t} {z = z} e) p q xb yb full h =
        rw ((like t z xb.1 yb.1).0 e) (row_end q.holds)
    can_have_fit ds a part (cell_there {t = t} {u = u} {z = z} e) p q xb yb full h =
        start_outside (row u z) part t xb.1 q full (λ o. both_ways (here (at g t) a) (row_end p.holds) (rw o at h)) e

pub matched :
    (k : ℕ) (g : Names) (c d : Claim) → 1 ≤ k → Fits k c → Fits k d → Says g (generic g c.atoms) d → Matches g c d →
    FollowsLike k g c d
matched k g c d some_names c-fits d-fits d-says matches n m like s says =
    let d-placed = dealt_each {P = Q} d-says.atoms (λ x a p. (p, (all_put (AtomBelow k) p.put d-fits.atoms_below).0)) in
    let c-placed = dealt_each {P = R} says.atoms (λ x a p. (p, (all_put (AtomBelow k) p.put c-fits.atoms_below).0)) in
    record {
      pures = pures_like k g n like d.pures d-fits.pures_below d-says.pures;
      atoms = walk k g n like R (λ x a r. (r.0.holds, r.1)) Q d-placed d-fits.atoms_below c.atoms refl c-placed (λ x a q. (q.0.holds, fits x a q));
    }
  where
    Q : Atom → Memory → Type 0
    Q x a = Placed g d.atoms (generic g c.atoms) x a × AtomBelow k x

    R : Atom → Memory → Type 0
    R x a = Placed n c.atoms m x a × AtomBelow k x

    fits :
        (x : Atom) (a : Memory) → Q x a → (y : Atom) (part : Memory) → R y part → (Empty g y → ⊥) → here (at g (start y)) a ≡ true →
        Fit n x y part
    fits x a q y part r full h =
        let can-have = matches x y a r.0.others q.0 r.0.put full h in
        can_have_fit k g c some_names c-fits n m like s says d.atoms a part can-have q.0 r.0 q.1 r.1 full h

-- If the first claim does not hold of its generic memory, then it does of nothing.
pub vacuous :
    (k : ℕ) (g : Names) (c d : Claim) → 1 ≤ k → Fits k c →
    (T (sound (generic g c.atoms)) → Says g (generic g c.atoms) c → ⊥) → FollowsLike k g c d
vacuous k g c d some_names c-fits not-c n m like s says =
    let (whole-sound, c-says) = generic_says k g c some_names c-fits n m like s says in
    absurd (not-c whole-sound c-says)

-- the row y stretches through a place up to k, where x never has a cell
pub data Stretches (k : ℕ) (g : Names) (cs : List Atom) : Atom → Atom → Type 0 where
  stretches :
      {x : Atom} {u z : ℕ} (t : ℕ) → t ≤ k → Spare g cs z t → ((a : Memory) → AtomHolds g x a → here t a ≡ false) →
      Stretches k g cs x (row u z)

-- the generic memory has no cell where no name is
pub generic_below :
    (k : ℕ) (g : Names) (cs : List Atom) → ((x : ℕ) → at g x < k) → (p : ℕ) → k ≤ p → here p (generic g cs) ≡ false
generic_below k g cs below p l = not_true_false (here p (generic g cs)) never
  where
    never : here p (generic g cs) ≡ true → ⊥
    never h =
        let first = generic_first g cs (cell_at p (generic g cs) h).out in
        omega (arith, below (start first.atom), ap (λ c. c.place) first.is_link)

pub can_have_or_stretches :
    (k : ℕ) (g : Names) (cs : List Atom) → ((x : ℕ) → at g x < k) → (x y : Atom) → CanHave g cs x y ⊎ Stretches k g cs x y
can_have_or_stretches k g cs below (cell p q) (cell u z) = inl cell_cell
can_have_or_stretches k g cs below (row p t) (cell u z) = inl row_cell
can_have_or_stretches k g cs below (cell p q) (row u z) = inr (stretches k (omega arith) spare outside)
  where
    spare : Spare g cs z k
    spare =
        let absent = generic_below k g cs below k (omega arith) in
        record { somewhere = λ e. omega (arith, below z); before_end = λ e. omega (arith, below z); absent = absent }

    outside : (a : Memory) → AtomHolds g (cell p q) a → here k a ≡ false
    outside a h = not_true_false (here k a) (λ j. omega (arith, below p, cell_only g p q k a h j))
can_have_or_stretches k g cs below (row p t) (row u z) =
    go (cases_eq (at g t) 0) (cases_eq (at g t) (at g z)) (cases_Bool (here (at g t) (generic g cs)))
  where
    go :
        Decided (at g t ≡ 0) → Decided (at g t ≡ at g z) →
        (here (at g t) (generic g cs) ≡ true) ⊎ (here (at g t) (generic g cs) ≡ false) →
        CanHave g cs (row p t) (row u z) ⊎ Stretches k g cs (row p t) (row u z)
    go (inl e) _ _ = inl (ends_nowhere e)
    go (inr nz) (inl e) _ = inl (same_end e)
    go (inr nz) (inr ne) (inl h) = inl (cell_there h)
    go (inr nz) (inr ne) (inr h) =
        let spare : Spare g cs z (at g t) = record { somewhere = nz; before_end = ne; absent = h } in
        inr (stretches (at g t) (omega (arith, below t)) spare (λ a w. row_end w))

-- a trial that is against it
pub record Unmatched (k : ℕ) (g : Names) (cs ds : List Atom) : Type 0 where
  pub m : Memory
  pub trial : Trial k g cs m
  pub sound_m : T (sound m)
  pub says : Dealt g cs m
  pub not : Dealt g ds m → ⊥

pub unmatched :
    {k : ℕ} {g : Names} {cs ds others : List Atom} {x y : Atom} {a : Memory} → T (sound (generic g cs)) →
    Placed g ds (generic g cs) x a → Put y others cs → (Empty g y → ⊥) → here (at g (start y)) a ≡ true →
    Stretches k g cs x y → Unmatched k g cs ds
unmatched {g = g} {cs = cs} {others = others} s placed put full h (stretches {u = u} {z = z} t l spare outside) =
    let (i, li, v) = stretched_out g t full put in
    record {
      m = stretched g cs i t;
      trial = through i t li (omega (arith, spare.somewhere)) l;
      sound_m = stretched_sound g cs s u z others put full t spare v;
      says = stretched_dealt g cs s u z others put full t spare v;
      not = λ d. not_inside g cs s u z others put full t spare placed h v d outside;
    }
