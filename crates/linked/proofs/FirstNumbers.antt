-- Each name at the number of the one that stands for it: these names agree with what is known (`first_numbers_agree`), and where
-- nothing forks, a claim holds of them and their generic memory (`generic_holds`).
use Rattle.std.proofs.Common.{◌≡◌, ℕ, zero, suc, ◌<◌, ◌≤◌, true, not, List, [], length, get_or, sym, refl, ap, ◌∙◌, subst, zero-add, arith, eq-eqb}
use Rattle.std.specs.List.{AllByRecursion}
use Rattle.std.proofs.lemmas.List.FromFn.{get_or-map-range_with_len}
use Rattle.std.proofs.ByRecursion.{All-get_or}
use Rattle.std.proofs.lemmas.List.{get_or_default}
use Rattle.std.proofs.lemmas.Bool.{ne_eqb}
use Rattle.claims.specs.Claims.{Atom, cell, row}
use Rattle.claims.specs.Memory.{at}
use Rattle.claims.specs.Words.{AtomBelow}
use Rattle.memory.specs.Owners.{start, Empty}
use Rattle.memory.proofs.Alike.{Alike, pures_alike}
use Rattle.models.specs.Generic.{ForkFree, generic}
use Rattle.models.proofs.Generic.{generic_dealt}
use Rattle.models.proofs.Forks.{fork_free_sound}
use Rattle.models.proofs.Like.{start_below}
use Rattle.linked.specs.Stands.{root}
use Rattle.linked.specs.Knowing.{Agrees}
use Rattle.linked.specs.Forking.{numbers, SettledMemory}
use Rattle.linked.specs.Generics.{live, GoesOut, Fork, two, from_nowhere, first_numbers, Generic, GenericHolds}
use Rattle.linked.specs.declared.known.Known.{Known}
use Rattle.linked.proofs.Roots.{root_below}
use Rattle.linked.proofs.Leading.{root-up}
use Rattle.linked.proofs.Clearness.{clear_of}

pub at-first_numbers : (m : ℕ) (k : Known) (x : ℕ) → x < m → m ≤ 64 → at (first_numbers m k) x ≡ root k.stands x
at-first_numbers m k zero h few = let l = root_below k.stands k.falls 0 (omega arith) in omega arith
at-first_numbers m k (suc x) h few = get_or-map-range_with_len (root k.stands) 0 m (suc x) (suc x) 0 h (zero-add (suc x))

pub first_numbers_agree : (k : Known) → Agrees k (first_numbers 64 k)
first_numbers_agree k =
    record {
      same = λ x h. place x h ∙ sym (root-up k.stands k.falls x h) ∙ sym (place (get_or k.stands x 0) (omega (arith, k.falls x h)));
      other = λ x y hx hy m e. clear_of k x y hx hy m (sym (place x hx) ∙ e ∙ place y hy);
    }
  where
    place : (x : ℕ) → x < 64 → at (first_numbers 64 k) x ≡ root k.stands x
    place x h = at-first_numbers 64 k x h (omega arith)

-- fewer names stand for the same
first_numbers_alike : (m : ℕ) (k : Known) → m ≤ 64 → Alike m (first_numbers 64 k) (first_numbers m k)
first_numbers_alike m k few x h = at-first_numbers 64 k x (omega arith) (omega arith) ∙ sym (at-first_numbers m k x h few)

module _ (m : ℕ) (k : Known) (few : m ≤ 64) where
  roots_one : (x y : ℕ) → x < m → y < m → at (first_numbers m k) x ≡ at (first_numbers m k) y → root k.stands x ≡ root k.stands y
  roots_one x y hx hy e = sym (at-first_numbers m k x hx few) ∙ e ∙ at-first_numbers m k y hy few

  one_root : (x y : ℕ) → x < m → y < m → root k.stands x ≡ root k.stands y → at (first_numbers m k) x ≡ at (first_numbers m k) y
  one_root x y hx hy e = at-first_numbers m k x hx few ∙ e ∙ sym (at-first_numbers m k y hy few)

  -- what is not empty with these names isn't known to be
  full_live : (a : Atom) → AtomBelow m a → (Empty (first_numbers m k) a → ⊥) → live k a ≡ true
  full_live (cell x y) b full = refl
  full_live (row x y) b full =
      ap not (ne_eqb (root k.stands x) (root k.stands y) (λ e. full (one_root x y b.0 b.1 e)))

  goes_out :
      (cs : List Atom) → AllByRecursion (AtomBelow m) cs → (i : ℕ) (d : Atom) → i < length cs → (Empty (first_numbers m k) (get_or cs i d) → ⊥) →
      GoesOut k cs (at (first_numbers m k) (start (get_or cs i d))) i
  goes_out cs below i d h full =
      let a = get_or cs i d in
      let b = All-get_or (AtomBelow m) cs i d h below in
      let P : Atom → Type 0 = λ u. (live k u ≡ true) × (root k.stands (start u) ≡ at (first_numbers m k) (start a)) in
      let p = subst P (get_or_default cs i d (row 0 0) h) (full_live a b full, sym (at-first_numbers m k (start a) (start_below a b) few)) in
      record { one = h; full = p.0; from = p.1 }

  pub fork_free : (cs : List Atom) → AllByRecursion (AtomBelow m) cs → (Fork k cs → ⊥) → ForkFree (first_numbers m k) cs
  fork_free cs below none =
      record {
        somewhere = λ i d h full e. none (from_nowhere i (subst (λ x. GoesOut k cs x i) e (goes_out cs below i d h full)));
        apart =
            λ i j d l h fi fj e.
            none (two _ i j l (subst (λ x. GoesOut k cs x i) e (goes_out cs below i d (omega arith) fi)) (goes_out cs below j d h fj));
      }

pub generic_holds : GenericHolds
generic_holds k cs none m ps few small below meets =
    let s = fork_free_sound (first_numbers m k) cs (fork_free m k few cs below none) in
    record {
      says =
          record {
            pures = pures_alike m (first_numbers 64 k) (first_numbers m k) (first_numbers_alike m k few) ps small (meets (first_numbers 64 k) (first_numbers_agree k));
            atoms = generic_dealt (first_numbers m k) cs s;
          };
      is_sound = s;
      agrees = first_numbers_agree k;
      only_known = λ x y hx hy e. eq-eqb (root k.stands x) (root k.stands y) (roots_one m k few x y hx hy e);
    }

-- with all 64 names, and of the atoms alone
pub generic_settled : (k : Known) (cs : List Atom) → AllByRecursion (AtomBelow 64) cs → (Fork k cs → ⊥) → SettledMemory k cs
generic_settled k cs below none =
    let g : Generic 64 k (record { pures = []; atoms = cs }) = generic_holds k cs none 64 [] (omega arith) tt below (λ n a. tt) in
    record { memory = generic (numbers k) cs; sound_m = g.is_sound; dealt = g.says.atoms; agrees = g.agrees; only_known = g.only_known }
