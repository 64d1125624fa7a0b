use Rattle.std.proofs.Common.{sym, subst}
use Rattle.claims.specs.Meaning.{pure_of}
use Rattle.claims.specs.declared.parts.Pure.{Pure}
use Rattle.linked.specs.Propagating.{AssumedOne}
use Rattle.linked.proofs.Learning.{joined_assumed, parted_assumed}
use Rattle.linked.proofs.assume.assume_one.Goals as goal

pub returns-in-Same : goal.returns-in-Same
returns-in-Same c =
    let P : Pure → Type 0 = λ p. AssumedOne (pure_of p) c.args.known.now c.join.result in
    subst P (sym c.in-Same.is) (joined_assumed c.args.known.now c.in-Same.x.0 c.in-Same.y.0 c.join.result c.join.ensures.joined)

pub returns-in-Other : goal.returns-in-Other
returns-in-Other c =
    let P : Pure → Type 0 = λ p. AssumedOne (pure_of p) c.args.known.now c.part.result in
    subst P (sym c.in-Other.is) (parted_assumed c.args.known.now c.in-Other.x.0 c.in-Other.y.0 c.part.result c.part.ensures.parted)
