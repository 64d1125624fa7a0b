-- Using up atoms.
--
-- taken_out: an atom that is marked is taken out of those that are left; goes_over: and a row goes over it; fewer_left: so the row ends.
-- all_free: where nothing is used all are left.
use Rattle.std.proofs.Common.{◌≡◌, ℕ, suc, Bool, ◌<◌, ◌≤◌, true, false, List, [], ◌∷◌, map, length, get_or, take, set, sym, refl, ap, ap₂, ◌∙◌, subst, subst₂, arith}
use lib.ListN.{length-map}
use Rattle.std.proofs.lemmas.List.{get_or-take, get_or-map, map-set, length-take-le}
use Rattle.claims.specs.Claims.{Atom, row}
use Rattle.claims.specs.Memory.{Parts, left_p, right_p}
use Rattle.memory.specs.Marks.{unmarked}
use Rattle.memory.specs.Owners.{end}
use Rattle.memory.specs.Taking.{Put, put_here, put_later}
use Rattle.memory.proofs.Parts.{parts_none}
use Rattle.memory.proofs.Marking.{mark_out}
use Rattle.matching.specs.Rules.{MadeOf, over}
use Rattle.matching.specs.Using.{mark, IsFree, all_of, left_of, LeftOf, Begins, Goes_on}
use Rattle.matching.specs.declared.rests.Rest.{Rest}
use Rattle.matching.specs.declared.used.Used.{Used}
use Rattle.linked.specs.Living.{atoms_of}
use Rattle.linked.proofs.Reach.{live-length}

-- taking one element out is putting it in, the other way round
pub one_put : {A : Type 0} {a : A} {b m : List A} → Parts (a ∷ []) b m → Put a b m
one_put {A} {a} (left_p {m = m} t) = subst (λ l. Put a l (a ∷ m)) (sym (parts_none t)) put_here
one_put (right_p t) = put_later (one_put t)

-- what may be used is no more than there is
pub own_within : (r : Rest) → r.own ≤ length (all_of r)
own_within r = omega (arith, r.all, live-length r.live.now)

-- the atom number e of a rest
abbrev pub atom_at : Rest → ℕ → Atom
atom_at r e = get_or (all_of r) e (row 0 0)

module _ (r q : Rest) (e : ℕ) (within : e < r.own) (there : IsFree r.used e) (of : LeftOf r q)
    (marked : q.used.marks ≡ set r.used.marks e true) where
  left_is : left_of q ≡ unmarked (set (map mark r.used.marks) e 1) (take r.own (all_of r))
  left_is =
      ap₂ (λ u o. unmarked (map mark u) (take o (all_of q))) marked of.own ∙
      ap (λ l. unmarked (map mark (set r.used.marks e true)) (take r.own (atoms_of l))) of.live ∙
      ap (λ w. unmarked w (take r.own (all_of r))) (map-set mark r.used.marks e true)

  pub taken_out : Put (atom_at r e) (left_of q) (left_of r)
  taken_out =
      let in_list : e < length (take r.own (all_of r)) = omega (arith, length-take-le r.own (all_of r) (own_within r)) in
      let in_marks : e < length r.used.marks = omega (arith, r.used.all, own_within r, live-length r.live.now, r.live.now.few) in
      let marked_too : e < length (map mark r.used.marks) = omega (arith, length-map r.used.marks mark, in_marks) in
      let flag : get_or (map mark r.used.marks) e 0 ≡ 0 = get_or-map mark r.used.marks e false 0 in_marks ∙ ap mark there in
      let out = mark_out (map mark r.used.marks) (take r.own (all_of r)) e (row 0 0) in_list marked_too flag in
      one_put (subst₂ (λ a l. Parts (a ∷ []) l (left_of r)) (get_or-take r.own (all_of r) e (row 0 0) within) (sym left_is) out)

put_length : {A : Type 0} {a : A} {b m : List A} → Put a b m → length m ≡ suc (length b)
put_length put_here = refl
put_length (put_later t) = ap suc (put_length t)

pub left_trans : (p r q : Rest) → LeftOf p r → LeftOf r q → LeftOf p q
left_trans p r q f g = record { live = g.live ∙ f.live; own = g.own ∙ f.own; known = g.known ∙ f.known }

-- a row that comes from p goes over it
module _ (p r q : Rest) (s t e : ℕ) (on : Goes_on r s t e) (back : LeftOf p r) (of : LeftOf r q)
    (marked : q.used.marks ≡ set r.used.marks e true) where
  begins : Begins r s e
  begins = on.begins

  out : Put (atom_at r e) (left_of q) (left_of r)
  out = taken_out r q e begins.within begins.there of marked

  pub goes_over :
      (x : ℕ) → end (atom_at r e) ≡ x → (os : List Atom) → MadeOf p.known.now (all_of p) t x (left_of q) os →
      MadeOf p.known.now (all_of p) t s (left_of r) os
  goes_over x at_end os more =
      let in_list : e < length (all_of r) = omega (arith, begins.within, own_within r) in
      let ahead =
      subst₂ (λ k l. MadeOf k (atoms_of l) t (end (atom_at r e)) (left_of q) os) (sym back.known) (sym back.live)
      (subst (λ y. MadeOf p.known.now (all_of p) t y (left_of q) os) (sym at_end) more) in
      subst₂ (λ k l. MadeOf k (atoms_of l) t s (left_of r) os) back.known back.live (over e in_list refl begins.start_is out on.outside ahead)

  -- and fewer are left
  pub fewer_left : length (left_of q) < length (left_of r)
  fewer_left = omega (arith, put_length out)

-- where nothing is used all are left
pub all_free : (u : Used) (ls : List Atom) → ((i : ℕ) → i < 64 → IsFree u i) → length ls ≤ 64 → unmarked (map mark u.marks) ls ≡ ls
all_free u ls none few = none_marked u.marks ls (λ i h. none i (omega (arith, few)))
  where
    none_marked : (w : List Bool) (ls : List Atom) → ((i : ℕ) → i < length ls → get_or w i false ≡ false) → unmarked (map mark w) ls ≡ ls
    none_marked [] ls h = refl
    none_marked (false ∷ w) [] h = refl
    none_marked (true ∷ w) [] h = refl
    none_marked (false ∷ w) (a ∷ ls) h = ap (λ l. a ∷ l) (none_marked w ls (λ i l. h (suc i) (omega arith)))
    none_marked (true ∷ w) (a ∷ ls) h = absurd (cc (h 0 (omega arith)))
