-- What is left of a part settles the part.
--
-- renamed_left, cancelled_left: one part is left; none_left: nothing is; two_left: two parts are.
-- drawn_from, part_later: what is drawn from all atoms of a part, and the part where more is known.
use Rattle.std.proofs.Common.{◌≡◌, ℕ, List, Some, None, Option, sym, refl, subst, subst₂, arith}
use Rattle.std.specs.List.{AllByRecursion}
use Rattle.claims.specs.Claims.{Pure, same, other, Atom}
use Rattle.claims.specs.Memory.{Names}
use Rattle.linked.specs.Knowing.{Agrees, Joined, Parted}
use Rattle.linked.specs.Living.{Lives}
use Rattle.linked.specs.Propagating.{AssumedOne, Propagated}
use Rattle.linked.specs.declared.known.Known.{Known}
use Rattle.matching.specs.Rules.{PureKnown, Closed, no_names, drawn, cases, renamed, in_parts, nothing_left}
use Rattle.matching.specs.Parting.{whole_of, Regrouped, Renamed, Cancelled, Cut}
use Rattle.entails.specs.Reducing.{PartSettled, PartOf, OneLeft, TwoLeft}
use Rattle.entails.specs.Searching.{ThenDrawn, OnSide}
use Rattle.entails.specs.Telling.{first_of, second_of}
use Rattle.entails.specs.declared.goals.Goal.{Goal}
use Rattle.matching.specs.declared.parts.Part.{Part}
use Rattle.matching.proofs.Lists.{empty_list}

lives_on : (k : Known) (cs ls rs : List Atom) → Lives k cs ls → Lives k ls rs → Lives k cs rs
lives_on k cs ls rs f h n g m = ((λ d. (h n g m).0 ((f n g m).0 d)), (λ d. (f n g m).1 ((h n g m).1 d)))

pub lives_regrouped : (k : Known) (cs ls rs : List Atom) → Lives k cs ls → Regrouped ls rs → Lives k cs rs
lives_regrouped k cs ls rs f h = lives_on k cs ls rs f (λ n g m. h n m)

one_known : (i j : Known) → Some i ≡ Some j → i ≡ j
one_known i j e = cc

no_known : (j : Known) → None ≡ Some j → ⊥
no_known j e = let z : ◌≡◌ {A = ℕ} 0 1 = cc in omega arith

module _ (g : Goal) (k : Known) (p : Part) where
  pub renamed_left : (q : Part) → PartOf g k p → Renamed k p q → OneLeft g k p q
  renamed_left q of r =
      record {
        part_of = lives_on k (first_of g).atoms (whole_of p) (whole_of q) of r.whole;
        settles = λ closed. renamed r.own r.wanted closed;
        no_more = r.no_more;
      }

  module _ (q : Part) (left : OneLeft g k p q) where
    pub cancelled_left : (r : Part) → Cancelled k q r → OneLeft g k p r
    cancelled_left r cancelled =
        record {
          part_of = lives_regrouped k (first_of g).atoms (whole_of q) (whole_of r) left.part_of cancelled.whole;
          settles = λ closed. left.settles (cancelled.comes_to g.names (first_of g) (second_of g) left.part_of closed);
          no_more = omega (arith, left.no_more, cancelled.no_more);
        }

    pub none_left : q.own.count ≡ 0 → q.wanted.count ≡ 0 → AllByRecursion (PureKnown k) (second_of g).pures → PartSettled g k p
    none_left no_own no-wanted pures =
        left.settles
        (subst₂ (Closed g.names (first_of g) (second_of g) (Some k)) (sym (empty_list q.own no_own)) (sym (empty_list q.wanted no-wanted)) (nothing_left pures))

    pub two_left : (a b : Part) → Cut q a b → TwoLeft g k p a b
    two_left a b cut =
        record {
          first_part = lives_regrouped k (first_of g).atoms (whole_of q) (whole_of a) left.part_of cut.first_whole;
          second_part = lives_regrouped k (first_of g).atoms (whole_of q) (whole_of b) left.part_of cut.second_whole;
          settles = λ one two. left.settles (in_parts cut.own cut.wanted one two);
          first_smaller = omega (arith, left.no_more, cut.first_smaller);
          second_smaller = omega (arith, left.no_more, cut.second_smaller);
        }

-- what is drawn from all atoms of a part is drawn from the first claim's
pub drawn_from :
    (k : Known) (cs ls : List Atom) (r : Option Known) → Lives k cs ls → Propagated ls k r → Propagated cs k r
drawn_from k cs ls (Some j) lives p =
    record { forth = λ n m s d g. p.forth n m s ((lives n g m).0 d) g; back = p.back }
drawn_from k cs ls None lives p = λ n m s d g. p n m s ((lives n g m).0 d) g

-- a part stays one where more is known
pub part_later : (g : Goal) (k j : Known) (p : Part) → ((n : Names) → Agrees j n → Agrees k n) → PartOf g k p → PartOf g j p
part_later g k j p back of n a m = of n (back n a) m

as_joined : (k : Known) (x y : ℕ) (s : Option Known) → AssumedOne (same x y) k s → Joined k x y s
as_joined k x y (Some j) h = h
as_joined k x y None h = h

as_parted : (k : Known) (x y : ℕ) (s : Option Known) → AssumedOne (other x y) k s → Parted k x y s
as_parted k x y (Some j) h = h
as_parted k x y None h = h

-- The two sides of a pair: what is settled with what was drawn is settled without, and names that agree then agreed before.
module _ (g : Goal) (k : Known) (p : Part) (of : PartOf g k p) (os ws : List Atom) where
  without_drawn :
      (s r : Option Known) → ((j : Known) → s ≡ Some j → (n : Names) → Agrees j n → Agrees k n) → ThenDrawn (whole_of p) s r →
      Closed g.names (first_of g) (second_of g) r os ws → Closed g.names (first_of g) (second_of g) s os ws
  without_drawn None r earlier e closed = no_names
  without_drawn (Some j) r earlier p' closed =
      drawn (drawn_from j (first_of g).atoms (whole_of p) r (part_later g k j p (earlier j refl) of) p') closed

  side_closed :
      (q : Pure) (r : Option Known) → OnSide k q (whole_of p) r → Closed g.names (first_of g) (second_of g) r os ws →
      (s : Option Known) × AssumedOne q k s × Closed g.names (first_of g) (second_of g) s os ws
  side_closed q r side closed = (side.assumed, side.is_assumed, without_drawn side.assumed r (go side.assumed side.is_assumed) side.then-drawn closed)
    where
      go : (s : Option Known) → AssumedOne q k s → (j : Known) → s ≡ Some j → (n : Names) → Agrees j n → Agrees k n
      go (Some i) assumed j e n a = ((assumed n).0 (subst (λ i. Agrees i n) (sym (one_known i j e)) a)).0
      go None assumed j e n a = absurd (no_known j e)

  pub both_sides :
      (x y : ℕ) (r q : Option Known) → OnSide k (same x y) (whole_of p) r → OnSide k (other x y) (whole_of p) q →
      Closed g.names (first_of g) (second_of g) r os ws → Closed g.names (first_of g) (second_of g) q os ws →
      Closed g.names (first_of g) (second_of g) (Some k) os ws
  both_sides x y r q one two closed_r closed_q =
      let a = side_closed (same x y) r one closed_r in
      let b = side_closed (other x y) q two closed_q in
      cases x y (as_joined k x y a.0 a.1) (as_parted k x y b.0 b.1) a.2 b.2

-- names that agree with what is known on a side agreed before
pub side_back : (k j : Known) (q : Pure) (ls : List Atom) → OnSide k q ls (Some j) → (n : Names) → Agrees j n → Agrees k n
side_back k j q ls side n a = go side.assumed side.is_assumed side.then-drawn
  where
    go : (s : Option Known) → AssumedOne q k s → ThenDrawn ls s (Some j) → Agrees k n
    go (Some i) assumed p = ((assumed n).0 (p.back n a)).0
    go None assumed e = absurd (no_known j (sym e))
