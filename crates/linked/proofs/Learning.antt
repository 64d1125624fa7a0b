-- What is learnt of names from atoms: one more pair that is the same.
use Rattle.std.proofs.Common.{◌≡◌, ℕ, ◌+◌, T, List, [], ◌∷◌, ◌++◌, take, Some, None, Option, subst}
use Rattle.std.specs.List.{AllByRecursion}
use Rattle.std.proofs.ByRecursion.{All-push, All-take}
use Rattle.claims.specs.Claims.{Pure, same, other, Atom}
use Rattle.claims.specs.Memory.{Names, at, Memory, sound, Dealt, PureHolds}
use Rattle.linked.specs.Knowing.{Agrees, Joined, Parted}
use Rattle.linked.specs.Living.{Lives}
use Rattle.linked.specs.Propagating.{Learns, Propagated, Assumed, AssumedOne}
use Rattle.linked.specs.declared.known.Known.{Known}

-- one more pair that is the same, by what was known before
module _ (cs : List Atom) (k j : Known) (x y : ℕ) (learnt : Learns cs k j)
    (both : (n : Names) (m : Memory) → T (sound m) → Agrees k n → Dealt n cs m → at n x ≡ at n y) where
  pub learns_same : (i : Known) → Joined j x y (Some i) → Learns cs k i
  learns_same i f =
      record {
        forth = λ n m sm d g. (f n).1 (learnt.forth n m sm d g, both n m sm g d);
        back = λ n g. learnt.back n ((f n).0 g).0;
      }

  pub learns_never : Joined j x y None → Propagated cs k None
  learns_never f n m sm d g = f n (learnt.forth n m sm d g) (both n m sm g d)

-- and what is learnt from the live atoms besides
module _ (cs ls : List Atom) (k j : Known) (learnt : Learns cs k j) (lives : Lives j cs ls) where
  pub learns_more : (i : Known) → Learns ls j i → Learns cs k i
  learns_more i more =
      record {
        forth = λ n m sm d g. let a = learnt.forth n m sm d g in more.forth n m sm ((lives n a m).0 d) a;
        back = λ n g. learnt.back n (more.back n g);
      }

  pub learns_none : Propagated ls j None → Propagated cs k None
  learns_none f n m sm d g = let a = learnt.forth n m sm d g in f n m sm ((lives n a m).0 d) a

-- what is known of one same or other is what is assumed
pub joined_assumed : (k : Known) (x y : ℕ) (r : Option Known) → Joined k x y r → AssumedOne (same x y) k r
joined_assumed k x y (Some j) f = f
joined_assumed k x y None f = f

pub parted_assumed : (k : Known) (x y : ℕ) (r : Option Known) → Parted k x y r → AssumedOne (other x y) k r
parted_assumed k x y (Some j) f = f
parted_assumed k x y None f = f

pub all_last : {A : Type 0} (P : A → Type 0) (xs : List A) (x : A) → AllByRecursion P (xs ++ x ∷ []) → AllByRecursion P xs × P x
all_last P [] x a = (tt, a.0)
all_last P (y ∷ xs) x a = let r = all_last P xs x a.1 in ((a.0, r.0), r.1)

-- one more is assumed
module _ (k j : Known) (ps : List Pure) (p : Pure) (so_far : Assumed ps k (Some j)) where
  pub assumed_more : (i : Known) → AssumedOne p j (Some i) → Assumed (ps ++ p ∷ []) k (Some i)
  assumed_more i f n = (
    (λ g. let a = (f n).0 g in let b = (so_far n).0 a.0 in (b.0, All-push (PureHolds n) ps p b.1 a.1)),
    (λ g. let a = all_last (PureHolds n) ps p g.1 in (f n).1 ((so_far n).1 (g.0, a.0), a.1)),
  )

  pub assumed_never :
      (all : List Pure) (i : ℕ) → AssumedOne p j None → take (i + 1) all ≡ ps ++ p ∷ [] → Assumed all k None
  assumed_never all i f e n g h =
      let a = all_last (PureHolds n) ps p (subst (AllByRecursion (PureHolds n)) e (All-take (PureHolds n) (i + 1) all h)) in
      f n ((so_far n).1 (g, a.0)) a.1
