-- It follows, or a small memory shows that it does not.
--
-- trial_few: a trial has few cells at few places; one_of_two and small_shows: the theorems.
use Rattle.std.proofs.Common.{ℕ, zero, suc, ◌+◌, ◌<◌, ◌≤◌, ◌⊎◌, List, [], ◌∷◌, ◌++◌, length, inl, inr, ⊎_elim, arith, length-append}
use Rattle.std.specs.List.{AllByRecursion}
use Rattle.std.proofs.lemmas.Bool.{cond_both}
use Rattle.std.proofs.ByRecursion.{All-append, All-weaker}
use Rattle.claims.specs.Claims.{Atom, cell, row, Question}
use Rattle.claims.specs.Words.{Limits}
use Rattle.claims.specs.Memory.{Names, at, Memory}
use Rattle.memory.specs.Owners.{start, end}
use Rattle.models.specs.Generic.{nonempty, link, linked, generic, linked_through, stretched, Trial, plain, through}
use Rattle.models.specs.Follows.{DoesFollow, Against, enough, CellBelow, Shows, SmallShows, OneOfTwo, FollowsLike}
use Rattle.models.proofs.Like.{at_below}
use Rattle.models.proofs.Stretched.{two}
use Rattle.models.proofs.Finite.{then-either, AllLists, lists_either}
use Rattle.models.proofs.Exact.{exact}
use Rattle.models.proofs.Patterns.{pattern, pattern_length, pattern_below, pattern_like}

-- at most j cells, at places below b
abbrev Few : ℕ → ℕ → Memory → Type 0
Few b j m = (length m ≤ j) × AllByRecursion (CellBelow b) m

few_append : (b i j : ℕ) (m m' : Memory) → Few b i m → Few b j m' → Few b (i + j) (m ++ m')
few_append b i j m m' h h' = (omega (arith, length-append m m'), All-append (CellBelow b) m m' h.1 h'.1)

module _ (b : ℕ) (g : Names) (below : (x : ℕ) → at g x < b) where
  linked_few : (a : Atom) → Few b 1 (linked g a)
  linked_few a =
      let one : Few b 1 (link g a ∷ []) = (omega arith, ((below (start a), below (end a)), tt)) in
      cond_both (nonempty g a) (link g a ∷ []) [] (Few b 1) (λ _. one) (λ _. (omega arith, tt))

  through_few : (t : ℕ) → t < b → (a : Atom) → Few b 2 (linked_through g a t)
  through_few t l (cell x y) = let h = linked_few (cell x y) in (omega arith, h.1)
  through_few t l (row x y) =
      let some : Few b 2 (two (at g x) t (at g y)) = (omega arith, ((below x, l), ((l, below y), tt))) in
      cond_both (nonempty g (row x y)) (two (at g x) t (at g y)) [] (Few b 2) (λ _. some) (λ _. (omega arith, tt))

  generic_few : (cs : List Atom) → Few b (length cs) (generic g cs)
  generic_few [] = (omega arith, tt)
  generic_few (a ∷ cs) =
      let h = few_append b 1 (length cs) (linked g a) (generic g cs) (linked_few a) (generic_few cs) in
      (omega arith, h.1)

  stretched_few : (cs : List Atom) (i t : ℕ) → t < b → Few b (suc (length cs)) (stretched g cs i t)
  stretched_few [] i t l = (omega arith, tt)
  stretched_few (a ∷ cs) zero t l =
      let h = few_append b 2 (length cs) (linked_through g a t) (generic g cs) (through_few t l a) (generic_few cs) in
      (omega arith, h.1)
  stretched_few (a ∷ cs) (suc i) t l =
      let h = few_append b 1 (suc (length cs)) (linked g a) (stretched g cs i t) (linked_few a) (stretched_few cs i t l) in
      (omega arith, h.1)

  trial_few : {k : ℕ} {cs : List Atom} {m : Memory} → k < b → Trial k g cs m → Few b (enough (length cs)) m
  trial_few {cs = cs} l plain = let h = generic_few cs in (omega arith, h.1)
  trial_few {cs = cs} l (through i t li l1 lk) = let h = stretched_few cs i t (omega arith) in (omega arith, h.1)

module _ (q : Question) (limits : Limits q) where
  -- a trial against it is small
  trial_shows :
      (g : Names) → AllByRecursion (λ p. p < q.names) g → (m : Memory) → Trial q.names g q.first.atoms m →
      Against q.names q.first q.second g m → Shows q
  trial_shows g below m trial against =
      let within = λ (x : ℕ). at_below q.names g limits.some_names below x in
      let few = trial_few 256 g (λ x. omega (arith, within x)) (omega arith) trial in
      let names_below = All-weaker (λ p. p < q.names) (λ p. p < 256) (λ p l. omega arith) g below in
      record {
        n = g;
        m = m;
        against = against;
        small = record { cells = few.0; names_below = names_below; places_below = few.1 };
      }

  -- for the names of one pattern
  pattern_of_two : AllLists (λ g. FollowsLike q.names g q.first q.second ⊎ Shows q) q.names q.names
  pattern_of_two g len below =
      let either = exact q.names g q.first q.second limits.some_names len below limits.first_fits limits.second_fits in
      ⊎_elim inl (λ h. inr (trial_shows g below h.0 h.1 h.2)) either

pub one_of_two : OneOfTwo
one_of_two q limits =
    let k = q.names in
    then-either (lists_either (λ g. FollowsLike k g q.first q.second) (Shows q) k k (pattern_of_two q limits)) λ all.
    inl (λ n m. all (pattern n k) (pattern_length n k) (pattern_below n k) n m (pattern_like n k))

pub small_shows : SmallShows
small_shows q limits n m against =
    let never = λ (follows : DoesFollow q.first q.second). against.not (follows n m against.sound_m against.says) in
    ⊎_elim (λ follows. absurd (never follows)) (λ shows. shows) (one_of_two q limits)
