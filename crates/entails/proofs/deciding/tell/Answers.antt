use Rattle.std.proofs.Common.{◌≡◌, ℕ, ◌+◌, ◌*◌, List, ◌++◌, length, take, drop, subst}
use Rattle.matching.proofs.Lists.{front}
use Rattle.entails.proofs.Shown.{shown}
use Rattle.entails.proofs.deciding.tell.Goals as goal

pub returns : goal.returns
returns c =
    let g = c.args.goal.now in
    let t = c.args.told.now in
    let o = c.args.out.now in
    let o1 = c.put.new.out in
    let o2 = c.put-2.new.out in
    let n = c.from-names.result in
    let is : n ≡ g.names = c.from-names.ensures in
    let first : o1 ≡ take 0 o ++ take n t.names ++ drop (0 + length (take n t.names)) o =
    subst (λ (a : List ℕ). o1 ≡ take 0 o ++ a ++ drop (0 + length a) o) (front n t.names) c.put.ensures in
    let second : o2 ≡ take n o1 ++ take (2 * t.count) t.cells ++ drop (n + length (take (2 * t.count) t.cells)) o1 =
    subst (λ (b : List ℕ). o2 ≡ take n o1 ++ b ++ drop (n + length b) o1) c.memory-memory.ensures c.put-2.ensures in
    let P : ℕ → Type 0 = λ i. o1 ≡ take 0 o ++ take i t.names ++ drop (0 + length (take i t.names)) o in
    let Q : ℕ → Type 0 = λ i. o2 ≡ take i o1 ++ take (2 * t.count) t.cells ++ drop (i + length (take (2 * t.count) t.cells)) o1 in
    shown g t o o1 o2 c.requires (subst P is first) (subst Q is second)
