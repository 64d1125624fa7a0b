-- Lists of atoms one behind the other, and lists that say the same of every memory.
use Rattle.std.proofs.Common.{◌≡◌, ℕ, ◌↔◌, List, [], ◌∷◌, ◌++◌, sym, subst, subst₂}
use Rattle.claims.specs.Claims.{Atom, cell, row}
use Rattle.claims.specs.Memory.{Names, at, Memory, IsRow, Parts, AtomHolds, Dealt, no_more, one_more}
use Rattle.linked.specs.Living.{Settled, Lives}
use Rattle.linked.specs.declared.known.Known.{Known}
use Rattle.memory.specs.Owners.{Empty}
use Rattle.memory.proofs.Parts.{parts_comm, parts_assoc, parts_regroup, parts_none, none_parts, all_parts}
use Rattle.memory.proofs.Atoms.{atom_empty, empty_atom}

-- what is dealt out to two lists is dealt out to the one behind the other
pub dealt_split :
    {n : Names} (cs ds : List Atom) {m : Memory} → Dealt n (cs ++ ds) m →
    (a : Memory) × (b : Memory) × Parts a b m × Dealt n cs a × Dealt n ds b
dealt_split [] ds {m} d = ([], m, none_parts m, no_more, d)
dealt_split (c ∷ cs) ds (one_more p h d) =
    let s = dealt_split cs ds d in
    let r = parts_regroup p s.2 in
    (r.0, s.1, r.2, one_more r.1 h s.3, s.4)

pub dealt_join :
    {n : Names} {a b m : Memory} {cs ds : List Atom} → Parts a b m → Dealt n cs a → Dealt n ds b → Dealt n (cs ++ ds) m
dealt_join {n} {ds = ds} p no_more e = subst (λ u. Dealt n ds u) (parts_none p) e
dealt_join p (one_more q h d) e = let r = parts_assoc p q in one_more r.1 h (dealt_join r.2 d e)

one_dealt : {n : Names} {a : Atom} (m : Memory) → AtomHolds n a m → Dealt n (a ∷ []) m
one_dealt m h = one_more (all_parts m) h no_more

dealt_one : {n : Names} {m : Memory} (a : Atom) → Dealt n (a ∷ []) m → AtomHolds n a m
dealt_one {n} a (one_more p h no_more) = subst (λ u. AtomHolds n a u) (parts_none (parts_comm p)) h

-- an atom with other names for the same ends
pub cell_alike :
    (n : Names) (x y a b : ℕ) → at n x ≡ at n a → at n y ≡ at n b → (m : Memory) →
    AtomHolds n (cell x y) m ↔ AtomHolds n (cell a b) m
cell_alike n x y a b e f m =
    let P : ℕ → ℕ → Type 0 = λ u v. (u ≡ 0 → ⊥) × (m ≡ record { place = u; holds = v } ∷ []) in
    (subst₂ P e f, subst₂ P (sym e) (sym f))

pub row_alike :
    (n : Names) (x y a b : ℕ) → at n x ≡ at n a → at n y ≡ at n b → (m : Memory) →
    AtomHolds n (row x y) m ↔ AtomHolds n (row a b) m
row_alike n x y a b e f m =
    let P : ℕ → ℕ → Type 0 = λ u v. IsRow u v m in
    (subst₂ P e f, subst₂ P (sym e) (sym f))

module _ (n : Names) (cs ls : List Atom) (alike : (m : Memory) → Dealt n cs m ↔ Dealt n ls m) where
  -- one more atom that says the same
  pub push_alike :
      (a b : Atom) → ((m : Memory) → AtomHolds n a m ↔ AtomHolds n b m) → (m : Memory) →
      Dealt n (cs ++ a ∷ []) m ↔ Dealt n (ls ++ b ∷ []) m
  push_alike a b same m = (
    (λ d.
        let s = dealt_split cs (a ∷ []) d in
        dealt_join s.2 ((alike s.0).0 s.3) (one_dealt s.1 ((same s.1).0 (dealt_one a s.4)))),
    (λ d.
        let s = dealt_split ls (b ∷ []) d in
        dealt_join s.2 ((alike s.0).1 s.3) (one_dealt s.1 ((same s.1).1 (dealt_one b s.4)))),
  )

  -- one more that is empty
  pub push_empty : (a : Atom) → Empty n a → (m : Memory) → Dealt n (cs ++ a ∷ []) m ↔ Dealt n ls m
  push_empty a e m = (
    (λ d.
        let s = dealt_split cs (a ∷ []) d in
        let z = atom_empty n a s.1 e (dealt_one a s.4) in
        let p : Parts s.0 [] m = subst (λ u. Parts s.0 u m) z s.2 in
        subst (λ u. Dealt n ls u) (parts_none (parts_comm p)) ((alike s.0).0 s.3)),
    (λ d. dealt_join (all_parts m) ((alike m).1 d) (one_dealt [] (empty_atom n a e))),
  )

-- lists of live atoms grow with the list that they stand for
module _ (k : Known) (cs ls : List Atom) (a b : Atom) (lives : Lives k cs ls) (settled : Settled k a b) where
  pub lives_push : Lives k (cs ++ a ∷ []) (ls ++ b ∷ [])
  lives_push n g = push_alike n cs ls (lives n g) a b (settled.alike n g)

  pub lives_skip : ((n : Names) → Empty n b) → Lives k (cs ++ a ∷ []) ls
  lives_skip e n g m =
      let p = push_alike n cs ls (lives n g) a b (settled.alike n g) m in
      let q = push_empty n ls ls (λ u. ((λ d. d), (λ d. d))) b (e n) m in
      ((λ d. q.0 (p.0 d)), (λ d. p.1 (q.1 d)))
