use Rattle.std.proofs.Common.{◌≡◌, ℕ, ◌<◌, ◌≤◌, true, false, Some, None, Option, rules, tests, arith}
use Rattle.std.specs.Option.{MatchOption}
use Rattle.std.proofs.lemmas.Iterator.{first_from_Range}
use Rattle.linked.specs.Knowing.{undecided}
use Rattle.linked.specs.declared.known.Known.{Known}
use Rattle.entails.specs.Searching.{OpenWith}
use Rattle.entails.proofs.choosing.open_with.Goals as goal

open_one :
    (k : Known) (x m : ℕ) (r : Option ℕ) →
    MatchOption r ((y : ℕ) → 0 ≤ y → y < m → undecided k x y ≡ false)
    (λ y. (0 ≤ y) × (y < m) × (undecided k x y ≡ true) × ((z : ℕ) → 0 ≤ z → z < y → undecided k x z ≡ false)) →
    OpenWith k x m r
open_one k x m (Some y) h = (h.1, h.2)
open_one k x m None h = λ y l. h y (omega arith) l

pub returns : goal.returns
returns c =
    let k = c.args.known.now in
    let x = c.args.x in
    open_one k x c.args.names c.find.result
    (first_from_Range _ _ _ _ (λ y. undecided k x y ≡ true) (λ y. undecided k x y ≡ false) c.find.ensures.ran (λ y q h. search (rules, tests))
    (λ y q h. search (rules, tests)))
