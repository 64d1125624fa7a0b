-- Names and a memory, written one behind the other into out.
--
-- told_words: the words of the memory that is told; written: what out holds then.
use Rattle.std.proofs.Common.{◌≡◌, ℕ, ◌+◌, ◌*◌, List, ◌++◌, length, take, drop, sym, ap, ◌∙◌, arith, length-append}
use Rattle.std.proofs.lemmas.List.{take_at, drop_at, length-take-le}
use Rattle.std.proofs.lemmas.Slice.{drop-append-drop}
use Rattle.memory.specs.Marks.{memory_words}
use Rattle.memory.proofs.Marking.{words_memory}
use Rattle.entails.specs.Telling.{told_memory, question_of, ToldAgainst}
use Rattle.entails.specs.Deciding.{Shown}
use Rattle.entails.specs.declared.goals.Goal.{Goal}
use Rattle.entails.specs.declared.told.Told.{Told}
use Rattle.entails.proofs.Against.{told_length}

pub told_words : (t : Told) → memory_words (told_memory t) ≡ take (2 * t.count) t.cells
told_words t =
    words_memory (take (2 * t.count) t.cells) (omega (arith, length-take-le (2 * t.count) t.cells (omega (arith, t.few, t.room))))

-- a is written at the front, and then b behind it
module _ (a b o o1 o2 : List ℕ) (n k : ℕ) (la : length a ≡ n) (lb : length b ≡ k)
    (first : o1 ≡ take 0 o ++ a ++ drop (0 + length a) o) (second : o2 ≡ take n o1 ++ b ++ drop (n + length b) o1) where
  front_is : take n o1 ≡ a
  front_is = ap (take n) first ∙ take_at a (drop (0 + length a) o) n la

  both : o2 ≡ (a ++ b) ++ drop (n + length b) o1
  both = second ∙ ap (λ u. u ++ b ++ drop (n + length b) o1) front_is

  count : length (a ++ b) ≡ n + k
  count = length-append a b ∙ omega (arith, la, lb)

  pub written : take (n + k) o2 ≡ a ++ b
  written = ap (take (n + k)) both ∙ take_at (a ++ b) (drop (n + length b) o1) (n + k) count

  pub behind : drop (n + k) o2 ≡ drop (n + k) o
  behind =
      let same : n + length b ≡ n + k = omega (arith, lb) in
      ap (drop (n + k)) both ∙ drop_at (a ++ b) (drop (n + length b) o1) (n + k) count ∙ ap (λ i. drop i o1) same ∙
      ap (drop (n + k)) first ∙ drop-append-drop (0 + length a) o a (n + k) (omega (arith, la)) (omega arith)

-- so what is told stands in out
pub shown :
    (g : Goal) (t : Told) (o o1 o2 : List ℕ) → ToldAgainst g t →
    o1 ≡ take 0 o ++ take g.names t.names ++ drop (0 + length (take g.names t.names)) o →
    o2 ≡ take g.names o1 ++ take (2 * t.count) t.cells ++ drop (g.names + length (take (2 * t.count) t.cells)) o1 →
    Shown (question_of g) o o2 t.count
shown g t o o1 o2 against first second =
    let a = take g.names t.names in
    let b = take (2 * t.count) t.cells in
    let la = length-take-le g.names t.names (omega (arith, t.all, g.limits.few_names)) in
    let lb = length-take-le (2 * t.count) t.cells (omega (arith, t.few, t.room)) in
    record {
      names = a;
      memory = told_memory t;
      against = against.against;
      count = told_length t;
      few = against.small;
      told = written a b o o1 o2 g.names (2 * t.count) la lb first second ∙ ap (λ u. a ++ u) (sym (told_words t));
      behind = behind a b o o1 o2 g.names (2 * t.count) la lb first second;
    }
