use Rattle.std.proofs.Common.{◌≢◌, ◌-◌, ◌^◌, ◌<◌, rules, arith}
use borrow.Author.Tests.{tests}
use Rattle.linked.specs.Living.{atoms_of}
use Rattle.linked.proofs.Reach.{reach_first}
use Rattle.linked.proofs.atoms.Live.reach.Goals as goal

pub again-init : goal.again-init
again-init c =
    reach_first (atoms_of c.args.self.now) c.args.e c.args.s c.new.result.0 c.new.ensures c.with-names.result.0 (c.with-names.ensures.bits c.requires)

pub again-smaller : goal.again-smaller
again-smaller c =
    let new : c.swept-names.result.0 ≢ c.again.names.0 = search (rules, tests) in
    let small : c.swept-names.result.0 < 2 ^ 64 = search rules in
    let less : 2 ^ 64 - c.swept-names.result.0 < 2 ^ 64 - c.again.names.0 = omega (arith, new, small, c.swept-names.ensures.grows) in
    less
