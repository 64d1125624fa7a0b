use Rattle.std.proofs.Common.{◌≡◌, Some, None, Ok, Err, Result, map, sym, subst, rules, tests}
use Rattle.std.specs.List.{AllByRecursion}
use Rattle.std.specs.Result.{MatchResult, IsErrAnd}
use Rattle.claims.specs.Memory.{PureHolds}
use Rattle.claims.specs.Meaning.{pure_of}
use Rattle.linked.specs.declared.known.Known.{Known}
use Rattle.matching.specs.Parting.{whole_of}
use Rattle.matching.specs.Rules.{no_names, drawn}
use Rattle.matching.specs.declared.parts.Part.{Part}
use Rattle.models.specs.Follows.{DoesFollow}
use Rattle.entails.specs.Deciding.{GoalSettled}
use Rattle.entails.specs.Reducing.{PartSettled}
use Rattle.entails.specs.Searching.{Searched}
use Rattle.entails.specs.Telling.{first_of, second_of, ToldAgainst}
use Rattle.entails.specs.declared.goals.Goal.{Goal}
use Rattle.entails.specs.declared.stretches.Trial.{Trial}
use Rattle.entails.specs.declared.told.Told.{Told}
use Rattle.entails.proofs.Reductions.{drawn_from, part_later}
use Rattle.entails.proofs.Settled.{goal_settled}
use Rattle.entails.proofs.goals.Goal.settle.Goals as goal
use Rattle.entails.proofs.goals.Goal.settle.Goals.{After-whole-part}

-- what the search told is made small
made_small :
    {Q : Trial → Told → Type 0} (g : Goal) (k : Known) (p : Part) (s : Result Unit Trial) (r : Result Unit Told) → Searched g k p s →
    MatchResult s (λ x. r ≡ Ok x) (λ e. IsErrAnd r (Q e)) → (PartSettled g k p → DoesFollow (first_of g) (second_of g)) →
    ((e : Trial) (t : Told) → Q e t → ToldAgainst g t) → GoalSettled g r
made_small g k p (Ok u) r searched is follows against = subst (GoalSettled g) (sym is) (follows searched)
made_small g k p (Err e) (Ok u) searched is follows against = absurd is
made_small g k p (Err e) (Err t) searched is follows against = against e t is

-- where the part is settled with what is known at first, the second claim follows
follows : (c : After-whole-part) → PartSettled c.args.self.now c.in-Some.known c.whole-part.result → DoesFollow (first_of c.args.self.now) (second_of c.args.self.now)
follows c closed =
    goal_settled c.args.self.now c.in-Some.known c.whole-part.result
    (λ n h. (c.in-Some.ensures n).1 (c.new.ensures n, subst (λ u. AllByRecursion (PureHolds n) (map pure_of u)) (sym c.pures.ensures) h))
    c.whole-part.ensures closed

pub returns-in_default : goal.returns-in_default
returns-in_default c n m s says =
    absurd (c.in_default.ensures n (c.new.ensures n) (subst (λ u. AllByRecursion (PureHolds n) (map pure_of u)) (sym c.pures.ensures) says.pures))

pub returns-in_default-draw : goal.returns-in_default-draw
returns-in_default-draw c =
    follows (goal.at.returns-in_default-draw c).After-whole-part
    (drawn (drawn_from c.in-Some.known (first_of c.args.self.now).atoms (whole_of c.whole-part.result) None c.whole-part.ensures.part_of c.in_default-draw.ensures.propagated) no_names)

pub search-requires-clause-part_of : goal.search-requires-clause-part_of
search-requires-clause-part_of c =
    part_later c.args.self.now c.in-Some.known c.in-Some-draw.drawn c.whole-part.result c.in-Some-draw.ensures.propagated.back c.whole-part.ensures.part_of

pub returns : goal.returns
returns c =
    let g = c.args.self.now in
    let k = c.in-Some.known in
    let p = c.whole-part.result in
    made_small g c.in-Some-draw.drawn p c.search.result c.map_err.result c.search.ensures c.map_err.ensures.cases
    (λ closed. follows (goal.at.returns c).After-whole-part
    (drawn (drawn_from k (first_of g).atoms (whole_of p) (Some c.in-Some-draw.drawn) c.whole-part.ensures.part_of c.in-Some-draw.ensures.propagated) closed))
    (λ e t h. search (rules, tests))
