-- Whether a claim holds of names and a sound memory can be decided.
--
-- row_decided, atom_decided: whether a row, or an atom, can be taken out of a memory.
-- dealt_decided: whether the memory is dealt out to atoms; says_decided: whether a claim holds.
use Rattle.std.proofs.Common.{◌≡◌, ℕ, zero, suc, ◌≤◌, true, false, T, ◌⊎◌, List, [], ◌∷◌, length, refl, ap, inl, inr, ⊎_elim, arith}
use Rattle.std.specs.List.{AllByRecursion}
use Rattle.std.proofs.lemmas.Bool.{both_ways, cases_eq, cases_Bool}
use Rattle.claims.specs.Claims.{Pure, same, other, Atom, cell, row, Claim}
use Rattle.claims.specs.Memory.{Names, at, Cell, Memory, here, sound, IsRow, PureHolds, AtomHolds, Dealt, no_more, Says}
use Rattle.memory.specs.Taking.{Takes, put_here}
use Rattle.memory.proofs.Parts.{parts_length, here-left, sound_right, sound_nowhere, one_out}
use Rattle.memory.proofs.Rows.{row_start, takes_row_none, takes_row_cell}
use Rattle.memory.proofs.Atoms.{atom_rest, cell_here}
use Rattle.memory.proofs.Dealt.{dealt_take_out, dealt_put_in}
use Rattle.models.proofs.Parts.{CellOut, cell_at}

abbrev pub Decided : Type 0 → Type 0
Decided A = A ⊎ (A → ⊥)

pub decided_by : {A B : Type 0} → (A → B) → (B → A) → Decided A → Decided B
decided_by f g (inl a) = inl (f a)
decided_by f g (inr no-a) = inr (λ b. no-a (g b))

pub decided_both : {A B : Type 0} → Decided A → Decided B → Decided (A × B)
decided_both (inl a) (inl b) = inl (a, b)
decided_both (inl a) (inr no-b) = inr (λ h. no-b h.1)
decided_both (inr no-a) _ = inr (λ h. no-a h.0)

-- a part of which P holds can be taken out
abbrev pub Taken : (Memory → Type 0) → Memory → Type 0
Taken P m = (e : Memory) × Takes P m e

-- a row is decided by the row from where its first cell leads
row_step :
    (m : Memory) → T (sound m) → (p q : ℕ) → ((o : CellOut p m) → Decided (Taken (IsRow o.held q) o.others)) →
    Decided (Taken (IsRow p q) m)
row_step m s p q f = go (cases_eq p q) (cases_Bool (here p m))
  where
    go : Decided (p ≡ q) → (here p m ≡ true) ⊎ (here p m ≡ false) → Decided (Taken (IsRow p q) m)
    go (inl e) _ = inl (m, (takes_row_none e).1 refl)
    go (inr ne) (inl h) =
        let o = cell_at p m h in
        decided_by (λ k. (k.0, (takes_row_cell o.out s ne).1 k.1)) (λ k. (k.0, (takes_row_cell o.out s ne).0 k.1)) (f o)
    go (inr ne) (inr h) = inr (λ k. both_ways (here p m) h (here-left k.1.parts p (row_start k.1.is ne)))

-- of at most f cells
row_within : (f : ℕ) (m : Memory) → length m ≤ f → T (sound m) → (p q : ℕ) → Decided (Taken (IsRow p q) m)
row_within zero m l s p q = row_step m s p q (λ o. absurd (omega (arith, parts_length o.out)))
row_within (suc f) m l s p q =
    row_step m s p q (λ o. row_within f o.others (omega (arith, parts_length o.out)) (sound_right o.out s) o.held q)

pub row_decided : (m : Memory) → T (sound m) → (p q : ℕ) → Decided (Taken (IsRow p q) m)
row_decided m s p q = row_within (length m) m (omega arith) s p q

pub atom_decided : (n : Names) (x : Atom) (m : Memory) → T (sound m) → Decided (Taken (AtomHolds n x) m)
atom_decided n (row x y) m s = row_decided m s (at n x) (at n y)
atom_decided n (cell x y) m s = ⊎_elim there (λ h. inr (λ k. absent h k.1)) (cases_Bool (here (at n x) m))
  where
    absent : {e : Memory} → here (at n x) m ≡ false → Takes (AtomHolds n (cell x y)) m e → ⊥
    absent h t = both_ways (here (at n x) m) h (here-left t.parts (at n x) (cell_here n x y t.part t.is))

    same_held : {e : Memory} (o : CellOut (at n x) m) → Takes (AtomHolds n (cell x y)) m e → o.held ≡ at n y
    same_held o t = ap (λ c. c.holds) (one_out o.out (rw t.is.1 at t.parts) s refl).0

    take : (o : CellOut (at n x) m) → (at n x ≡ 0 → ⊥) → o.held ≡ at n y → Taken (AtomHolds n (cell x y)) m
    take o somewhere e = (o.others, record { part = _; parts = rw e at o.out; is = (somewhere, refl) })

    there : here (at n x) m ≡ true → Decided (Taken (AtomHolds n (cell x y)) m)
    there h =
        let o = cell_at (at n x) m h in
        let somewhere : at n x ≡ 0 → ⊥ = λ e. both_ways (here 0 m) (sound_nowhere m s) (rw e at h) in
        decided_by (take o somewhere) (λ k. same_held o k.1) (cases_eq o.held (at n y))

first_left : (n : Names) (c : Cell ℕ) (m : Memory) → Dealt n [] (c ∷ m) → ⊥
first_left n c m d = elim d [ ]

pub dealt_decided : (n : Names) (ds : List Atom) (m : Memory) → T (sound m) → Decided (Dealt n ds m)
dealt_decided n [] [] s = inl no_more
dealt_decided n [] (c ∷ m) s = inr (first_left n c m)
dealt_decided n (x ∷ ds) m s = go (λ e t. dealt_decided n ds e (sound_right t.parts s)) (atom_decided n x m s)
  where
    first_out : Dealt n (x ∷ ds) m → (rest : Memory) × Takes (AtomHolds n x) m rest × Dealt n ds rest
    first_out d = dealt_take_out put_here d

    go :
        ((e : Memory) → Takes (AtomHolds n x) m e → Decided (Dealt n ds e)) → Decided (Taken (AtomHolds n x) m) →
        Decided (Dealt n (x ∷ ds) m)
    go later (inl (e, t)) =
        let same_rest = λ (d : Dealt n (x ∷ ds) m). rw (atom_rest n x s (first_out d).1 t) at (first_out d).2 in
        decided_by (dealt_put_in put_here t) same_rest (later e t)
    go later (inr no_atom) = inr (λ d. no_atom ((first_out d).0, (first_out d).1))

pub pure_decided : (n : Names) (f : Pure) → Decided (PureHolds n f)
pure_decided n (same x y) = cases_eq (at n x) (at n y)
pure_decided n (other x y) = ⊎_elim (λ e. inr (λ ne. ne e)) inl (cases_eq (at n x) (at n y))

pub pures_decided : (n : Names) (fs : List Pure) → Decided (AllByRecursion (PureHolds n) fs)
pures_decided n [] = inl tt
pures_decided n (f ∷ fs) = decided_both (pure_decided n f) (pures_decided n fs)

pub says_decided : (n : Names) (m : Memory) (c : Claim) → T (sound m) → Decided (Says n m c)
says_decided n m c s =
    let both = decided_both (pures_decided n c.pures) (dealt_decided n c.atoms m s) in
    decided_by (λ h. record { pures = h.0; atoms = h.1 }) (λ h. (h.pures, h.atoms)) both
