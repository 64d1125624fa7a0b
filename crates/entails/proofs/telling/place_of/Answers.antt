use Rattle.std.proofs.Common.{arith}
use Rattle.linked.proofs.Roots.{root_below}
use Rattle.entails.proofs.telling.place_of.Goals as goal

pub returns-then-x-names-clause-below : goal.returns-then-x-names-clause-below
returns-then-x-names-clause-below c =
    let k = c.args.known.now in
    omega (arith, c.find.ensures.stands, root_below k.stands k.falls c.args.x c.requires.small)
