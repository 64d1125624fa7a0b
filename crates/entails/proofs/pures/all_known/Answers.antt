use Rattle.std.proofs.Common.{ℕ, ◌<◌, length, sym, subst, rules, tests, arith}
use Rattle.std.specs.Bool.{⊤, MatchBool}
use Rattle.std.specs.List.{AllWithin, HoldsAt}
use Rattle.std.proofs.lemmas.Iterator.{YieldsList-from_slice, cases_from_all}
use Rattle.std.proofs.lemmas.Iterator.Adapters.{serves_from_places}
use Rattle.claims.specs.Meaning.{pure_of}
use Rattle.claims.specs.Words.{PureBelow}
use Rattle.claims.specs.declared.parts.Pure.{Pure}
use Rattle.matching.specs.Rules.{PureKnown}
use Rattle.entails.proofs.Each.{at_each, all_each}
use Rattle.entails.proofs.pures.all_known.Goals as goal

pub all-requires-clause-callable : goal.all-requires-clause-callable
all-requires-clause-callable c =
    serves_from_places (YieldsList-from_slice c.args.pures.now cc) (λ x q k. search (rules, tests))
    (λ x k h e.
    let below : PureBelow 64 (pure_of x.now) = subst (λ u. PureBelow 64 (pure_of u)) (sym e) (at_each (PureBelow 64) pure_of c.args.pures.now k x.now h c.requires) in
    search rules)

pub returns : goal.returns
returns c e =
    let xs = c.args.pures.now in
    let Yes : Pure → Type 0 = λ p. PureKnown c.args.known.now (pure_of p) in
    let No : Pure → Type 0 = λ p. ⊤ in
    all_each (PureKnown c.args.known.now) pure_of xs
    (λ i d l.
    (subst (λ b. MatchBool b (AllWithin Yes xs 0 (length xs)) ((k : ℕ) × (k < length xs) × HoldsAt No xs k)) e
    (cases_from_all _ _ _ Yes No c.all.ensures.ran (YieldsList-from_slice xs cc) (λ x q k. search (rules, tests)) (λ x q k. tt)))
    i d (omega arith) l)
