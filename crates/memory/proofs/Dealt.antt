-- A memory dealt out to cells and rows.
--
-- dealt_take_out and dealt_put_in: any atom of the list can be taken out with its part, and put in.
-- dealt_same: the list says which part of a memory is dealt out to it; says_same: so does a claim.
-- dealt_part and owns_from: an atom owns the places of its part; owns_part: and no others.
-- owner: it owns its start, unless it is an empty row.
-- one_owner: every other atom passes by the place that one owns.
use Rattle.std.proofs.Common.{◌≡◌, ℕ, zero, suc, ◌<◌, true, false, ◌||◌, T, ◌⊎◌, List, [], ◌∷◌, length, get_or, sym, refl, ap, ◌∙◌, ap₂, inl, inr, ⊎_elim, arith}
use Rattle.claims.specs.Claims.{Atom, Claim}
use Rattle.claims.specs.Memory.{Names, at, Memory, here, sound, Parts, AtomHolds, Dealt, no_more, one_more, Says}
use Rattle.memory.specs.Taking.{Takes, Put, put_here, put_later}
use Rattle.memory.specs.Owners.{start, Empty, Passes, Owns, owns_here, owns_later}
use Rattle.memory.proofs.Parts.{parts_comm, parts_assoc, here_parts, here-left, here_right, here_neither, sound_right, parts_disjoint, parts_same, rest_same}
use Rattle.memory.proofs.Atoms.{atom_same, atom_start, atom_passes}

-- any element of a list can be taken out
pub put_getD : {A : Type 0} (ds : List A) (i : ℕ) (d : A) → i < length ds → (cs : List A) × Put (get_or ds i d) cs ds
put_getD [] i d l = absurd (omega arith)
put_getD (x ∷ ds) zero d l = (ds, put_here)
put_getD (x ∷ ds) (suc i) d l = let (cs, u) = put_getD ds i d (omega arith) in (x ∷ cs, put_later u)

pub dealt_take_out :
    {n : Names} {a : Atom} {cs ds : List Atom} {m : Memory} → Put a cs ds → Dealt n ds m →
    (rest : Memory) × Takes (AtomHolds n a) m rest × Dealt n cs rest
dealt_take_out put_here (one_more {part = part} {rest = rest} t h d) = (rest, record { part = part; parts = t; is = h }, d)
dealt_take_out (put_later u) (one_more t h d) =
    let (rest, out, k) = dealt_take_out u d in
    let (g, g1, g2) = parts_assoc (parts_comm t) out.parts in
    (g, record { part = out.part; parts = g1; is = out.is }, one_more (parts_comm g2) h k)

pub dealt_put_in :
    {n : Names} {a : Atom} {cs ds : List Atom} {m rest : Memory} → Put a cs ds → Takes (AtomHolds n a) m rest →
    Dealt n cs rest → Dealt n ds m
dealt_put_in put_here out d = one_more out.parts out.is d
dealt_put_in (put_later u) out (one_more t h d) =
    let (g, g1, g2) = parts_assoc (parts_comm out.parts) t in
    one_more g1 h (dealt_put_in u (record { part = out.part; parts = parts_comm g2; is = out.is }) d)

pub dealt_same :
    {n : Names} {cs : List Atom} {m a b e f : Memory} → Parts a e m → Parts b f m → T (sound m) → Dealt n cs a → Dealt n cs b →
    a ≡ b
dealt_same t u s no_more no_more = refl
dealt_same {n} t u s (one_more {a = x} v h d) (one_more w k c) =
    let same-part = atom_same n x (parts_assoc t v).1 (parts_assoc u w).1 s h k in
    let same_rest = dealt_same (parts_assoc t (parts_comm v)).1 (parts_assoc u (parts_comm w)).1 s d c in
    (parts_same t u s (λ x. here_parts v x ∙ (ap₂ (λ p q. here x p || here x q) same-part same_rest ∙ sym (here_parts w x)))).0

pub says_same :
    {n : Names} {c : Claim} {m a b e f : Memory} → Parts a e m → Parts b f m → T (sound m) → Says n a c → Says n b c →
    (a ≡ b) × (e ≡ f)
says_same t u s v w =
    let same = dealt_same t u s v.atoms w.atoms in
    (same, rest_same t u s same)

pub owns_dealt : {n : Names} {cs : List Atom} {m : Memory} {i p : ℕ} → Owns n cs m i p → Dealt n cs m
owns_dealt (owns_here t h d k) = one_more t h d
owns_dealt (owns_later t h o) = one_more t h (owns_dealt o)

pub owns_place : {n : Names} {cs : List Atom} {m : Memory} {i p : ℕ} → Owns n cs m i p → here p m ≡ true
owns_place (owns_here {p = p} t h d k) = here-left t p k
owns_place (owns_later {p = p} t h o) = here_right t p (owns_place o)

-- an owner's part, with a cell at the place
pub owns_part :
    {n : Names} {cs : List Atom} {m : Memory} {i p : ℕ} → Owns n cs m i p → (d : Atom) →
    (rest : Memory) × Takes (λ a. AtomHolds n (get_or cs i d) a × (here p a ≡ true)) m rest
owns_part (owns_here {part = part} {rest = rest} t h c k) d = (rest, record { part = part; parts = t; is = (h, k) })
owns_part (owns_later t h o) d =
    let (rest, out) = owns_part o d in
    let (g, g1, g2) = parts_assoc (parts_comm t) out.parts in
    (g, record { part = out.part; parts = g1; is = out.is })

-- where a memory has no cell, all atoms that it is dealt out to pass by
pub absent_passes :
    {n : Names} {cs : List Atom} {m : Memory} → Dealt n cs m → (p : ℕ) → here p m ≡ false → (j : ℕ) (d : Atom) → j < length cs →
    Passes n p (get_or cs j d)
absent_passes no_more p k j d l = absurd (omega arith)
absent_passes {n} (one_more {a = x} {part = part} t h c) p k zero d l = atom_passes n x p part h (here_neither t p k).0
absent_passes (one_more t h c) p k (suc j) d l = absent_passes c p (here_neither t p k).1 j d (omega arith)

pub one_owner :
    {n : Names} {cs : List Atom} {m : Memory} {i p : ℕ} → T (sound m) → Owns n cs m i p → (j : ℕ) (d : Atom) → (j ≡ i → ⊥) →
    j < length cs → Passes n p (get_or cs j d)
one_owner s (owns_here t h c k) zero d ne l = absurd (ne refl)
one_owner s (owns_here {p = p} t h c k) (suc j) d ne l = absent_passes c p (parts_disjoint t s p k) j d (omega arith)
one_owner {n} s (owns_later {a = x} {part = part} {p = p} t h o) zero d ne l =
    atom_passes n x p part h (parts_disjoint (parts_comm t) s p (owns_place o))
one_owner s (owns_later t h o) (suc j) d ne l = one_owner (sound_right t s) o j d (λ e. ne (ap suc e)) (omega arith)

-- each atom has a part, and owns the places of that
pub dealt_part :
    {n : Names} {cs : List Atom} {m : Memory} → Dealt n cs m → (i : ℕ) (d : Atom) → i < length cs →
    (rest : Memory) × Takes (λ a. AtomHolds n (get_or cs i d) a × ((p : ℕ) → here p a ≡ true → Owns n cs m i p)) m rest
dealt_part no_more i d l = absurd (omega arith)
dealt_part (one_more {part = part} {rest = rest} t h c) zero d l =
    (rest, record { part = part; parts = t; is = (h, λ p k. owns_here t h c k) })
dealt_part (one_more t h c) (suc i) d l =
    let (rest, out) = dealt_part c i d (omega arith) in
    let (g, g1, g2) = parts_assoc (parts_comm t) out.parts in
    (g, record { part = out.part; parts = g1; is = (out.is.0, λ p k. owns_later t h (out.is.1 p k)) })

pub owner :
    {n : Names} {cs : List Atom} {m : Memory} → Dealt n cs m → (i : ℕ) (d : Atom) → i < length cs →
    Empty n (get_or cs i d) ⊎ Owns n cs m i (at n (start (get_or cs i d)))
owner {n} {cs} c i d l =
    let (rest, out) = dealt_part c i d l in
    let x = get_or cs i d in
    ⊎_elim inl (λ k. inr (out.is.1 (at n (start x)) k)) (atom_start n x out.part out.is.0)

-- however the atom's part was found
pub owns_from :
    {n : Names} {cs : List Atom} {m a e : Memory} → T (sound m) → Dealt n cs m → (i : ℕ) (d : Atom) → i < length cs →
    Parts a e m → AtomHolds n (get_or cs i d) a → (p : ℕ) → here p a ≡ true → Owns n cs m i p
owns_from {n} {cs} s c i d l t h p k =
    let (rest, out) = dealt_part c i d l in
    out.is.1 p (rw (atom_same n (get_or cs i d) t out.parts s h out.is.0) at k)
