-- All 64 names, each at the number of the one that stands for it: they agree with what is known (`numbers_agree`).
use Rattle.std.proofs.Common.{◌≡◌, ℕ, ◌<◌, List, length, get_or, sym, ap, ◌∙◌, arith, eq-eqb}
use Rattle.claims.specs.Claims.{Atom, row}
use Rattle.claims.specs.Memory.{at}
use Rattle.memory.specs.Owners.{start}
use Rattle.std.proofs.lemmas.List.{get_or_default}
use Rattle.models.specs.Generic.{ForkFree}
use Rattle.models.proofs.Generic.{generic_dealt}
use Rattle.models.proofs.Forks.{fork_free_sound}
use Rattle.linked.specs.Stands.{root}
use Rattle.linked.specs.Knowing.{Agrees}
use Rattle.linked.specs.Forking.{numbers, HasGeneric, begin_of, ApartSoFar}
use Rattle.linked.specs.declared.known.Known.{Known}
use Rattle.linked.proofs.FirstNumbers.{at-first_numbers, first_numbers_agree}

pub at-numbers : (k : Known) (x : ℕ) → x < 64 → at (numbers k) x ≡ root k.stands x
at-numbers k x h = at-first_numbers 64 k x h (omega arith)

pub numbers_agree : (k : Known) → Agrees k (numbers k)
numbers_agree = first_numbers_agree

pub has-generic : (k : Known) (cs : List Atom) → ForkFree (numbers k) cs → HasGeneric k cs
has-generic k cs f =
    let s = fork_free_sound (numbers k) cs f in
    record {
      agrees = numbers_agree k;
      only_known = λ x y hx hy e. eq-eqb (root k.stands x) (root k.stands y) (sym (at-numbers k x hx) ∙ e ∙ at-numbers k y hy);
      sound_m = s;
      dealt = generic_dealt (numbers k) cs s;
    }

-- atoms that begin somewhere, and no two at one place
pub fork_free :
    (k : Known) (cs : List Atom) → ((i : ℕ) → i < length cs → start (get_or cs i (row 0 0)) < 64) → ApartSoFar k cs (length cs) →
    ForkFree (numbers k) cs
fork_free k cs small apart =
    record {
      somewhere = λ i d h ne e. (apart i h).0 (sym (place i d h) ∙ e);
      apart = λ i j d l h ni nj e. (apart i (omega arith)).1 j l h (sym (place j d h) ∙ sym e ∙ place i d (omega arith));
    }
  where
    place : (i : ℕ) (d : Atom) → i < length cs → at (numbers k) (start (get_or cs i d)) ≡ begin_of k cs i
    place i d h = ap (λ a. at (numbers k) (start a)) (get_or_default cs i d (row 0 0) h) ∙ at-numbers k (start (get_or cs i (row 0 0))) (small i h)
