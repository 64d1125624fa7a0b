-- Parts of a question: by other names, without what is found, and in two.
--
-- lives_append: lists that say the same, one behind the other.
-- regrouped: a list in two parts and others behind it, in another order.
-- cancel_none, cancel_found, cancel_kept, cancel_all: the turns of a loop that takes out what is found.
use Rattle.std.proofs.Common.{◌≡◌, ℕ, ◌+◌, ◌<◌, ◌≤◌, List, [], ◌∷◌, ◌++◌, map, length, get_or, take, drop, Some, sym, ap, ap₂, ◌∙◌, subst, subst₂, arith}
use Rattle.std.proofs.lemmas.List.{append-nil, append_assoc, drop_more, drop_all, take_at}
use Rattle.claims.specs.Claims.{Atom, row}
use Rattle.claims.specs.Memory.{Parts}
use Rattle.memory.specs.Marks.{unmarked}
use Rattle.memory.specs.Taking.{Put, put_here, put_later}
use Rattle.memory.proofs.Parts.{parts_comm, parts_assoc, parts_regroup}
use Rattle.linked.specs.Living.{Lives, atoms_of}
use Rattle.linked.specs.declared.atoms.Live.{Live}
use Rattle.linked.specs.declared.known.Known.{Known}
use Rattle.linked.proofs.AtomLists.{dealt_split, dealt_join}
use Rattle.linked.proofs.Reach.{live-length}
use Rattle.matching.specs.Rules.{Closed, Made, taken}
use Rattle.matching.specs.Parting.{own_of, wanted_of, whole_of, size, Regrouped, ComesTo, Only, Cut}
use Rattle.matching.specs.declared.parts.Part.{Part}
use Rattle.matching.specs.Using.{mark, IsFree, all_of, left_of, AtomUsed}
use Rattle.matching.specs.declared.rests.Rest.{Rest}
use Rattle.matching.proofs.Rules.{parts_dealt, dealt_parts}
use Rattle.matching.proofs.Consuming.{all_free}

pub lives_append : (k : Known) (os es ps fs : List Atom) → Lives k os ps → Lives k es fs → Lives k (os ++ es) (ps ++ fs)
lives_append k os es ps fs f h n g m = (
  (λ d. let (a, b, t, da, db) = dealt_split os es d in dealt_join t ((f n g a).0 da) ((h n g b).0 db)),
  (λ d. let (a, b, t, da, db) = dealt_split ps fs d in dealt_join t ((f n g a).1 da) ((h n g b).1 db)),
)

pub regrouped : {os ps qs : List Atom} (es : List Atom) → Parts ps qs os → Regrouped (os ++ es) (ps ++ (es ++ qs))
regrouped {os} {ps} {qs} es u n m = (
  (λ d.
      let (p, q, t, dp, dq) = dealt_split os es d in
      let (p1, p2, v, d1, d2) = parts_dealt u dp in
      let (e, t1, t2) = parts_assoc t v in
      dealt_join t1 d1 (dealt_join (parts_comm t2) dq d2)),
  (λ d.
      let (p1, e, t, d1, de) = dealt_split ps (es ++ qs) d in
      let (q, p2, v, dq, d2) = dealt_split es qs de in
      let (p, t1, t2) = parts_regroup t (parts_comm v) in
      dealt_join t2 (dealt_parts u t1 d1 d2) dq),
)

put_middle : {A : Type 0} (xs : List A) (a : A) (ys : List A) → Put a (xs ++ ys) (xs ++ a ∷ ys)
put_middle [] a ys = put_here
put_middle (x ∷ xs) a ys = put_later (put_middle xs a ys)

-- the part's own atoms are those in front of all
pub own_front : (l : Live) (es : List Atom) → take l.count (atoms_of l ++ es) ≡ atoms_of l
own_front l es = take_at (atoms_of l) es l.count (live-length l)

-- r is a rest of a part's own atoms, with the others behind them
pub record RestOf (k : Known) (own : Live) (es : List Atom) (r : Rest) : Type 0 where
  pub known : r.known.now ≡ k
  pub all : all_of r ≡ atoms_of own ++ es
  pub front : r.own ≡ own.count

module _ (k : Known) (own : Live) (es ws : List Atom) where
  -- it comes to this that is left, of both claims
  abbrev pub LeftTo : Rest → List Atom → Type 0
  LeftTo r vs = RestOf k own es r × ComesTo k (atoms_of own ++ es) (atoms_of own) ws (left_of r) vs

  in_front : (r : Rest) → RestOf k own es r → take r.own (all_of r) ≡ atoms_of own
  in_front r of = ap₂ take of.front of.all ∙ own_front own es

  pub cancel_none :
      (r : Rest) (left : List Atom) → RestOf k own es r → ((i : ℕ) → i < 64 → IsFree r.used i) → left ≡ [] → LeftTo r (left ++ ws)
  cancel_none r left of none e =
      let here = ap (unmarked (map mark r.used.marks)) (in_front r of) in
      let all = all_free r.used (atoms_of own) none (omega (arith, live-length own, own.few)) in (
        of,
        λ m c d lives closed. subst₂ (λ x y. Closed m c d (Some k) x (y ++ ws)) (here ∙ all) e closed,
      )

  module _ (r : Rest) (left : List Atom) (i : ℕ) (a : Atom) (within : i < length ws) (is : get_or ws i (row 0 0) ≡ a)
      (before : LeftTo r (left ++ drop i ws)) where
    this : drop i ws ≡ a ∷ drop (i + 1) ws
    this = drop_more ws i (row 0 0) within ∙ ap (λ x. x ∷ drop (i + 1) ws) is

    pub cancel_found : (q : Rest) → AtomUsed r a (Some q) → LeftTo q (left ++ drop (i + 1) ws)
    cancel_found q (of, made) =
        let here = before.0 in
        let found = subst₂ (λ j ls. Made j ls a (left_of r) (left_of q)) here.known here.all made in (
          record { known = of.known ∙ here.known; all = ap atoms_of of.live ∙ here.all; front = of.own ∙ here.front },
          λ m c d lives closed.
              before.1 m c d lives
              (subst (λ l. Closed m c d (Some k) (left_of r) (left ++ l)) (sym this)
              (taken lives (put_middle left a (drop (i + 1) ws)) found closed)),
        )

    pub cancel_kept : (more : List Atom) → more ≡ left ++ a ∷ [] → LeftTo r (more ++ drop (i + 1) ws)
    cancel_kept more e =
        let same = ap (λ l. l ++ drop (i + 1) ws) e ∙ append_assoc left (a ∷ []) (drop (i + 1) ws) ∙ ap (λ l. left ++ l) (sym this) in (
          before.0,
          λ m c d lives closed. before.1 m c d lives (subst (λ l. Closed m c d (Some k) (left_of r) l) same closed),
        )

  pub cancel_all :
      (r : Rest) (left qs : List Atom) (i : ℕ) → length ws ≤ i → qs ≡ unmarked (map mark r.used.marks) (atoms_of own) →
      LeftTo r (left ++ drop i ws) → ComesTo k (atoms_of own ++ es) (atoms_of own) ws qs left
  cancel_all r left qs i end e (of, before) m c d lives closed =
      let none = ap (λ l. left ++ l) (drop_all i ws end) ∙ append-nil left in
      let same = e ∙ ap (unmarked (map mark r.used.marks)) (sym (in_front r of)) in
      before m c d lives (subst₂ (Closed m c d (Some k)) same (sym none) closed)

-- a part cut in two
pub cut_two :
    (p a b : Part) (own-one own-rest wanted-one wanted-rest : Live) →
    Parts (atoms_of own-rest) (atoms_of own-one) (own_of p) → Parts (atoms_of wanted-rest) (atoms_of wanted-one) (wanted_of p) →
    Only p own-one own-rest wanted-one a → Only p own-rest own-one wanted-rest b →
    own-one.count + wanted-one.count < size p → own-rest.count + wanted-rest.count < size p → Cut p a b
cut_two p a b own-one own-rest wanted-one wanted-rest own wanted one rest few-one few-rest =
    record {
      own = subst₂ (λ x y. Parts (atoms_of x) (atoms_of y) (own_of p)) (sym one.own) (sym rest.own) (parts_comm own);
      wanted = subst₂ (λ x y. Parts (atoms_of x) (atoms_of y) (wanted_of p)) (sym one.wanted) (sym rest.wanted) (parts_comm wanted);
      first_whole =
          subst₂ (λ x y. Regrouped (whole_of p) (atoms_of x ++ y)) (sym one.own) (sym one.others) (regrouped (atoms_of p.others) (parts_comm own));
      second_whole = subst₂ (λ x y. Regrouped (whole_of p) (atoms_of x ++ y)) (sym rest.own) (sym rest.others) (regrouped (atoms_of p.others) own);
      first_smaller = subst₂ (λ (x y : Live). x.count + y.count < size p) (sym one.own) (sym one.wanted) few-one;
      second_smaller = subst₂ (λ (x y : Live). x.count + y.count < size p) (sym rest.own) (sym rest.wanted) few-rest;
    }
