-- Looking for a fork, one atom after the other.
use Rattle.std.proofs.Common.{◌≡◌, ℕ, ◌+◌, ◌<◌, ◌≤◌, true, false, ◌||◌, eqb, List, map, length, get_or, sym, ap, ◌∙◌, subst, ⊎_elim, arith, below_more, eq-eqb, eqb-true}
use lib.ListN.{length-map}
use borrow.Author.Tests.{both_ways}
use Rattle.std.proofs.lemmas.List.{get_or-map}
use Rattle.claims.specs.Claims.{Atom, row}
use Rattle.claims.specs.Meaning.{atom_of}
use Rattle.claims.specs.declared.parts.Atom.{Atom as CodeAtom}
use Rattle.memory.specs.Owners.{start}
use Rattle.linked.specs.Bits.{has}
use Rattle.linked.specs.Generics.{live, GoesOut, Fork, two, from_nowhere}
use Rattle.linked.specs.Spare.{spare}
use Rattle.linked.specs.Stands.{root}
use Rattle.linked.specs.declared.bits.NameSet.{NameSet}
use Rattle.linked.specs.declared.known.Known.{Known}
use Rattle.linked.proofs.Carrying.{or_cases, or_left, or_right}

-- among the first e atoms nothing forks, and the set has just the names from which they go out
pub record Begun (k : Known) (cs : List Atom) (e : ℕ) (seen : NameSet) : Type 0 where
  pub somewhere : (i : ℕ) → i < e → GoesOut k cs 0 i → ⊥
  pub apart : (j : ℕ) → j < e → (x i : ℕ) → i < j → GoesOut k cs x i → GoesOut k cs x j → ⊥
  pub all : (i : ℕ) → i < e → (x : ℕ) → GoesOut k cs x i → has seen x ≡ true
  pub only : (x : ℕ) → has seen x ≡ true → (i : ℕ) × (i < e) × GoesOut k cs x i

module _ (k : Known) (cs : List Atom) where
  pub begun_none : (seen : NameSet) → ((x : ℕ) → has seen x ≡ false) → Begun k cs 0 seen
  begun_none seen none =
      record {
        somewhere = λ i h. absurd (omega arith);
        apart = λ j h. absurd (omega arith);
        all = λ i h. absurd (omega arith);
        only = λ x h. absurd (both_ways (has seen x) (none x) h);
      }

  module _ (e : ℕ) (seen : NameSet) (so_far : Begun k cs e seen) where
    -- one more that is known to be empty
    pub begun_skip : ((x : ℕ) → GoesOut k cs x e → ⊥) → Begun k cs (e + 1) seen
    begun_skip never =
        record {
          somewhere = below_more _ e so_far.somewhere (never 0);
          apart = below_more _ e so_far.apart (λ x i l gi. never x);
          all = below_more _ e so_far.all (λ x g. absurd (never x g));
          only = λ x h. let (i, l, g) = so_far.only x h in (i, omega arith, g);
        }

    module _ (s : ℕ) (out : GoesOut k cs s e) where
      from_s : (x : ℕ) → GoesOut k cs x e → x ≡ s
      from_s x g = sym g.from ∙ out.from

      -- one more that goes out from s, which is new
      pub begun_more :
          (s ≡ 0 → ⊥) → false ≡ has seen s → (more : NameSet) → ((y : ℕ) → has more y ≡ (has seen y || eqb y s)) →
          Begun k cs (e + 1) more
      begun_more some new more is =
          record {
            somewhere = below_more _ e so_far.somewhere (λ g. some (sym (from_s 0 g)));
            apart =
                below_more _ e so_far.apart
                (λ x i l gi g. both_ways (has seen s) (sym new) (subst (λ y. has seen y ≡ true) (from_s x g) (so_far.all i l x gi)));
            all =
                below_more _ e (λ i l x g. is x ∙ or_left _ _ (so_far.all i l x g))
                (λ x g. is x ∙ or_right (has seen x) _ (eq-eqb x s (from_s x g)));
            only =
                λ x h.
                ⊎_elim (λ t. let (i, l, g) = so_far.only x t in (i, omega arith, g))
                (λ t. (e, omega arith, subst (λ y. GoesOut k cs y e) (sym (eqb-true x s t)) out))
                (or_cases (has seen x) (eqb x s) (sym (is x) ∙ h));
          }

      -- or one that forks
      pub fork_nowhere : s ≡ 0 → Fork k cs
      fork_nowhere z = from_nowhere e (subst (λ y. GoesOut k cs y e) z out)

      pub fork_two : true ≡ has seen s → Fork k cs
      fork_two h = let (i, l, g) = so_far.only s (sym h) in two s i e l g out

    -- all are seen
    pub begun_all : length cs ≤ e → Fork k cs → ⊥
    begun_all h (two x i j l gi gj) = so_far.apart j (omega (arith, gj.one)) x i l gi gj
    begun_all h (from_nowhere i g) = so_far.somewhere i (omega (arith, g.one)) g

-- of the code's atoms
module _ (k : Known) (atoms : List CodeAtom) (i : ℕ) (h : i < length atoms) where
  nth : get_or (map atom_of atoms) i (row 0 0) ≡ atom_of (get_or atoms i spare)
  nth = get_or-map atom_of atoms i spare (row 0 0) h

  pub code_out :
      (b s : ℕ) → true ≡ live k (atom_of (get_or atoms i spare)) → b ≡ start (atom_of (get_or atoms i spare)) → s ≡ root k.stands b →
      GoesOut k (map atom_of atoms) s i
  code_out b s l eb es =
      record {
        one = omega (arith, length-map atoms atom_of);
        full = ap (live k) nth ∙ sym l;
        from = ap (λ a. root k.stands (start a)) nth ∙ ap (root k.stands) (sym eb) ∙ sym es;
      }

  pub code_empty : false ≡ live k (atom_of (get_or atoms i spare)) → (x : ℕ) → GoesOut k (map atom_of atoms) x i → ⊥
  code_empty l x g = both_ways (live k (atom_of (get_or atoms i spare))) (sym l) (sym (ap (live k) nth) ∙ g.full)
