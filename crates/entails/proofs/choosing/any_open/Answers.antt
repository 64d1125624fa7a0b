use Rattle.std.proofs.Common.{◌≡◌, ℕ, ◌+◌, Some, None, Option, sym, ap, subst, rules, tests, arith}
use Rattle.std.specs.Option.{MatchOption, IfSome, option_map}
use Rattle.std.proofs.lemmas.Option.{none-some, same_Some}
use Rattle.std.proofs.iter.runs.Sources.{ranges, range_runs}
use Rattle.std.specs.declared.ops.Range.{Range}
use Rattle.linked.specs.declared.known.Known.{Known}
use Rattle.matching.specs.Rules.{Total}
use Rattle.entails.specs.Searching.{IsOpen, Chosen}
use Rattle.entails.proofs.choosing.any_open.Goals as goal

chosen :
    (k : Known) (m : ℕ) (r : Option (ℕ × ℕ)) → ((p : ℕ × ℕ) → r ≡ Some p → IsOpen k p.0 p.1) → (r ≡ None → Total m k) → Chosen k m r
chosen k m (Some p) some none = some p (λ i. Some p)
chosen k m None some none = none (λ i. None)

none_given : {A P : Type 0} (Q : A → Type 0) (r : Option A) → MatchOption r P Q → r ≡ None → P
none_given Q None h e = h
none_given Q (Some x) h e = absurd (none-some x (sym e))

-- what holds of the item at place x of a range from 0
at_place : (P : ℕ → Type 0) (o : Option ℕ) (a x : ℕ) → IfSome o P → a ≡ 0 → option_map (λ y. y) o ≡ Some (a + x) → P x
at_place P None a x h zero e = absurd (none-some (a + x) e)
at_place P (Some y) a x h zero e = let same : y ≡ x = omega (arith, same_Some y (a + x) e) in subst P same h

pub returns : goal.returns
returns c =
    chosen c.args.known.now c.args.names c.find_map.result (λ p e. search (rules, ranges))
    (λ e x y hx hy.
    let run = c.find_map.ensures.runs.0 in
    let all = none_given _ c.find_map.result c.find_map.ensures.runs.2 e in
    let up = range_runs run run.seen in
    let start = ap (λ (r : Range ℕ). r.start) c.find_map.ensures.runs.1 in
    let end = ap (λ (r : Range ℕ). r.end) c.find_map.ensures.runs.1 in
    let called = all.1 (λ a r q h. search (rules, tests)) x in
    let none = at_place _ (run.at x) run.from.start x called start (up.3 x (omega (arith, up.1 all.0, start, end))) in
    search (rules, tests))
