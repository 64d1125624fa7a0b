-- The rules of the search are right.
--
-- made_dealt: what an atom is made of can be taken out as that atom; parts_dealt, dealt_parts: so can parts of a list.
-- closed_holds: what the rules say is so; all_settled: so the second claim holds wherever the first does.
use Rattle.std.proofs.Common.{◌≡◌, ℕ, ◌<◌, ◌≤◌, Bool, true, false, not, ◌&&◌, T, List, [], ◌∷◌, length, get_or, Some, None, Option, sym, refl, ap, ◌∙◌, subst, inl, inr, ⊎_elim, arith}
use Rattle.std.specs.List.{AllByRecursion}
use Rattle.std.proofs.lemmas.Bool.{both_ways, cases_eq, eqb-true, ne_eqb}
use Rattle.claims.specs.Claims.{Pure, same, other, Atom, row, Claim}
use Rattle.claims.specs.Words.{PureBelow}
use Rattle.claims.specs.Memory.{Names, at, Memory, here, sound, Parts, none_p, left_p, right_p, IsRow, PureHolds, AtomHolds, Dealt, no_more, one_more, Says}
use Rattle.memory.specs.Taking.{Takes, Put}
use Rattle.memory.proofs.Parts.{parts_comm, parts_assoc, parts_regroup, parts_none, none_parts, all_parts, not_true_false, sound_right}
use Rattle.memory.proofs.Rows.{takes_row_none}
use Rattle.memory.proofs.Atoms.{takes_row_atom}
use Rattle.memory.proofs.Dealt.{dealt_take_out, dealt_put_in, owns_from}
use Rattle.models.specs.Generic.{Like}
use Rattle.models.specs.Follows.{FollowsLike}
use Rattle.linked.specs.Stands.{root}
use Rattle.linked.specs.Knowing.{Agrees, known_same, known_other, Joined, Parted}
use Rattle.linked.specs.Living.{Lives}
use Rattle.linked.specs.Reaching.{Barred}
use Rattle.linked.specs.Propagating.{Propagated}
use Rattle.linked.specs.declared.known.Known.{Known}
use Rattle.linked.proofs.Knowledge.{same_known, other_known}
use Rattle.matching.specs.Rules.{PureKnown, MadeOf, arrived, over, Made, made_cell, made_row, StandsAt, Total, Closed, no_names, drawn, cases, renamed, taken, in_parts, nothing_left, pattern, Met, HoldsFor}

-- A memory is dealt out to all atoms ls, with names that agree with what is known.
module _ (k : Known) (ls : List Atom) (n : Names) (m : Memory) (s : T (sound m)) (g : Agrees k n) (all : Dealt n ls m) where
  -- an atom that never has a cell at t has none there in this memory
  outside :
      {part rest : Memory} (e t : ℕ) (a : Atom) → e < length ls → get_or ls e (row 0 0) ≡ a → Parts part rest m → AtomHolds n a part →
      Barred k ls e t → here (at n t) part ≡ false
  outside {part} e t a l is parts holds barred =
      not_true_false (here (at n t) part) λ h.
      barred n m s g (owns_from s all e (row 0 0) l parts (subst (λ x. AtomHolds n x part) (sym is) holds) (at n t) h)

  made_row_out :
      {t s : ℕ} {rs qs : List Atom} {used rest : Memory} → MadeOf k ls t s rs qs → Parts used rest m → Dealt n rs rest →
      (e : Memory) × Takes (IsRow (at n s) (at n t)) rest e × Dealt n qs e
  made_row_out {rest = rest} (arrived same_name) parts d = (rest, (takes_row_none (ap (at n) same_name)).1 refl, d)
  made_row_out {t} {rest = rest} (over {a = a} e l is begins put barred more) parts d =
      let (others, out, d2) = dealt_take_out put d in
      let (whole, u, v) = parts_regroup parts out.parts in
      let (_, own, _) = parts_assoc (parts_comm parts) out.parts in
      let absent = outside e t a l is own out.is barred in
      let (left, row_out, d3) = made_row_out more v d2 in
      let whole_row = (takes_row_atom n a (at n t) out.parts (sound_right parts s) out.is absent).1 row_out in
      (left, subst (λ x. Takes (IsRow (at n x) (at n t)) rest left) begins whole_row, d3)

  pub made_dealt :
      {w : Atom} {os qs : List Atom} {used rest : Memory} → Made k ls w os qs → Parts used rest m → Dealt n os rest →
      (e : Memory) × Takes (AtomHolds n w) rest e × Dealt n qs e
  made_dealt (made_cell put) parts d = dealt_take_out put d
  made_dealt (made_row made) parts d = made_row_out made parts d

-- a list of atoms in two parts
pub parts_dealt :
    {n : Names} {os ps qs : List Atom} {m : Memory} → Parts ps qs os → Dealt n os m →
    (a : Memory) × (b : Memory) × Parts a b m × Dealt n ps a × Dealt n qs b
parts_dealt none_p d = ([], _, none_parts _, no_more, d)
parts_dealt (left_p u) (one_more t h d) =
    let (a, b, v, da, db) = parts_dealt u d in
    let (whole, v1, v2) = parts_regroup t v in
    (whole, b, v2, one_more v1 h da, db)
parts_dealt (right_p u) (one_more t h d) =
    let (a, b, v, da, db) = parts_dealt u d in
    let (whole, v1, v2) = parts_regroup t (parts_comm v) in
    (a, whole, parts_comm v2, da, one_more v1 h db)

pub dealt_parts :
    {n : Names} {os ps qs : List Atom} {a b m : Memory} → Parts ps qs os → Parts a b m → Dealt n ps a → Dealt n qs b → Dealt n os m
dealt_parts {n} none_p t no_more d = subst (λ u. Dealt n [] u) (parts_none t) d
dealt_parts (left_p u) t (one_more v h da) db = let (e, v1, v2) = parts_assoc t v in one_more v1 h (dealt_parts u v2 da db)
dealt_parts (right_p u) t da (one_more v h db) =
    let (e, v1, v2) = parts_assoc (parts_comm t) v in
    one_more v1 h (dealt_parts u (parts_comm v2) da db)

-- what is known of the pures holds
pures_hold : (k : Known) (n : Names) → Agrees k n → (ps : List Pure) → AllByRecursion (PureBelow 64) ps → AllByRecursion (PureKnown k) ps → AllByRecursion (PureHolds n) ps
pures_hold k n g [] below h = tt
pures_hold k n g (same x y ∷ ps) below h = (
  same_known k x y below.0.0 below.0.1 n g (eqb-true (root k.stands x) (root k.stands y) h.0),
  pures_hold k n g ps below.1 h.1,
)
pures_hold k n g (other x y ∷ ps) below h =
    (other_known k x y below.0.0 below.0.1 n g h.0, pures_hold k n g ps below.1 h.1)

-- two tests that fail leave the third
decided_other : (a b : Bool) → a ≡ false → (not a && not b) ≡ false → b ≡ true
decided_other a true p q = refl
decided_other true false p q = absurd (both_ways true p refl)
decided_other false false p q = absurd (both_ways true q refl)

-- where all is known, names that agree have the pattern of those that stand for their classes
pub total_like :
    (m : ℕ) (k : Known) (g n : Names) → m ≤ 64 → Total m k → StandsAt m k g → Agrees k n → Like m g n
total_like m k g n small total stands agrees x y lx ly =
    let hx : x < 64 = omega arith in
    let hy : y < 64 = omega arith in
    let rx = stands.rooted x lx in
    let ry = stands.rooted y ly in (
      (λ e. same_known k x y hx hy n agrees (sym rx ∙ e ∙ ry)),
      (λ e.
          ⊎_elim (λ same-root. rx ∙ same-root ∙ sym ry)
          (λ ne.
          let apart = decided_other (known_same k x y) (known_other k x y) (ne_eqb (root k.stands x) (root k.stands y) ne) (total x y lx ly) in
          absurd (other_known k x y hx hy n agrees apart e))
          (cases_eq (root k.stands x) (root k.stands y))),
    )

module _ (m : ℕ) (c d : Claim) (small : m ≤ 64) (d-pures : AllByRecursion (PureBelow 64) d.pures) where
  module _ (os ws : List Atom) where
    drawn_holds : (k : Known) (r : Option Known) → Propagated c.atoms k r → HoldsFor c d r os ws → HoldsFor c d (Some k) os ws
    drawn_holds k None p h n mem s g says = absurd (p n mem s says.atoms g)
    drawn_holds k (Some j) p h n mem s g says = h n mem s (p.forth n mem s says.atoms g) says

    joined_holds :
        (k : Known) (r : Option Known) (x y : ℕ) → Joined k x y r → HoldsFor c d r os ws → (n : Names) (mem : Memory) → T (sound mem) →
        Agrees k n → at n x ≡ at n y → Says n mem c → Met d os ws n mem
    joined_holds k None x y j h n mem s g e says = absurd (j n g e)
    joined_holds k (Some i) x y j h n mem s g e says = h n mem s ((j n).1 (g, e)) says

    parted_holds :
        (k : Known) (r : Option Known) (x y : ℕ) → Parted k x y r → HoldsFor c d r os ws → (n : Names) (mem : Memory) → T (sound mem) →
        Agrees k n → (at n x ≡ at n y → ⊥) → Says n mem c → Met d os ws n mem
    parted_holds k None x y j h n mem s g e says = absurd (j n g e)
    parted_holds k (Some i) x y j h n mem s g e says = h n mem s ((j n).1 (g, e)) says

    cases_hold :
        (k : Known) (r t : Option Known) (x y : ℕ) → Joined k x y r → Parted k x y t → HoldsFor c d r os ws → HoldsFor c d t os ws →
        HoldsFor c d (Some k) os ws
    cases_hold k r t x y joined parted one two n mem s g says =
        ⊎_elim (λ e. joined_holds k r x y joined one n mem s g e says) (λ e. parted_holds k t x y parted two n mem s g e says)
        (cases_eq (at n x) (at n y))

  renamed_holds :
      (k : Known) (os ps ws vs : List Atom) → Lives k os ps → Lives k ws vs → HoldsFor c d (Some k) ps vs → HoldsFor c d (Some k) os ws
  renamed_holds k os ps ws vs own wanted h n mem s g says = go (h n mem s g says)
    where
      go : Met d ps vs n mem → Met d os ws n mem
      go (inl all) = inl all
      go (inr met) = inr (met.0, λ p e t o. (wanted n g p).1 (met.1 p e t ((own n g p).0 o)))

  taken_holds :
      (k : Known) (ls os qs ws vs : List Atom) (w : Atom) → Lives k c.atoms ls → Put w vs ws → Made k ls w os qs →
      HoldsFor c d (Some k) qs vs → HoldsFor c d (Some k) os ws
  taken_holds k ls os qs ws vs w lives put made h n mem s g says = go (h n mem s g says)
    where
      step : ((p e : Memory) → Parts p e mem → Dealt n qs p → Dealt n vs p) → (p e : Memory) → Parts p e mem → Dealt n os p → Dealt n ws p
      step f p e t o =
          let all = (lives n g mem).0 says.atoms in
          let (left, out, rest) = made_dealt k ls n mem s g all made (parts_comm t) o in
          let (_, u, _) = parts_assoc t (parts_comm out.parts) in
          dealt_put_in put out (f left _ u rest)

      go : Met d qs vs n mem → Met d os ws n mem
      go (inl all) = inl all
      go (inr met) = inr (met.0, step met.1)

  parts_hold :
      (k : Known) (os ps qs ws us vs : List Atom) → Parts ps qs os → Parts us vs ws → HoldsFor c d (Some k) ps us →
      HoldsFor c d (Some k) qs vs → HoldsFor c d (Some k) os ws
  parts_hold k os ps qs ws us vs own wanted one two n mem s g says = go (one n mem s g says) (two n mem s g says)
    where
      step :
          ((p e : Memory) → Parts p e mem → Dealt n ps p → Dealt n us p) → ((p e : Memory) → Parts p e mem → Dealt n qs p → Dealt n vs p) →
          (p e : Memory) → Parts p e mem → Dealt n os p → Dealt n ws p
      step f h p e t o =
          let (a, b, u, da, db) = parts_dealt own o in
          let (_, ua, _) = parts_assoc t u in
          let (_, ub, _) = parts_assoc t (parts_comm u) in
          dealt_parts wanted u (f a _ ua da) (h b _ ub db)

      go : Met d ps us n mem → Met d qs vs n mem → Met d os ws n mem
      go (inl all) _ = inl all
      go (inr _) (inl all) = inl all
      go (inr met) (inr more) = inr (met.0, step met.1 more.1)

  nothing_holds : (k : Known) → AllByRecursion (PureKnown k) d.pures → HoldsFor c d (Some k) [] []
  nothing_holds k pures n mem s g says = inr (pures_hold k n g d.pures d-pures pures, λ p e t o. o)

  pattern_holds :
      (k : Known) (g : Names) (os ws : List Atom) → Total m k → StandsAt m k g → FollowsLike m g c d → HoldsFor c d (Some k) os ws
  pattern_holds k g os ws total stands follows n mem s agrees says =
      inl (follows n mem (total_like m k g n small total stands agrees) s says)

  pub closed_holds : {r : Option Known} {os ws : List Atom} → Closed m c d r os ws → HoldsFor c d r os ws
  closed_holds no_names = tt
  closed_holds (drawn {k = k} {r = r} {os = os} {ws = ws} p more) = drawn_holds os ws k r p (closed_holds more)
  closed_holds (cases {k = k} {r = r} {s = t} {os = os} {ws = ws} x y joined parted one two) =
      cases_hold os ws k r t x y joined parted (closed_holds one) (closed_holds two)
  closed_holds (renamed {k = k} {os = os} {ps = ps} {ws = ws} {vs = vs} own wanted more) =
      renamed_holds k os ps ws vs own wanted (closed_holds more)
  closed_holds (taken {k = k} {ls = ls} {os = os} {qs = qs} {ws = ws} {vs = vs} {w = w} lives put made more) =
      taken_holds k ls os qs ws vs w lives put made (closed_holds more)
  closed_holds (in_parts {k = k} {os = os} {ps = ps} {qs = qs} {ws = ws} {us = us} {vs = vs} own wanted one two) =
      parts_hold k os ps qs ws us vs own wanted (closed_holds one) (closed_holds two)
  closed_holds (nothing_left {k = k} pures) = nothing_holds k pures
  closed_holds (pattern {k = k} {g = g} {os = os} {ws = ws} total stands follows) = pattern_holds k g os ws total stands follows

  -- of all atoms of both claims
  pub all_settled :
      (k : Known) → Closed m c d (Some k) c.atoms d.atoms → (n : Names) (mem : Memory) → T (sound mem) → Agrees k n → Says n mem c →
      Says n mem d
  all_settled k closed n mem s g says = go (closed_holds closed n mem s g says)
    where
      go : Met d c.atoms d.atoms n mem → Says n mem d
      go (inl all) = all
      go (inr met) = record { pures = met.0; atoms = met.1 mem [] (all_parts mem) says.atoms }
