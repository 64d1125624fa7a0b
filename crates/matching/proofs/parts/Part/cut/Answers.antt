use Rattle.std.proofs.Common.{arith}
use Rattle.matching.proofs.Parting.{cut_two}
use Rattle.matching.proofs.parts.Part.cut.Goals as goal

pub returns : goal.returns
returns c =
    let own = c.divide.ensures in
    let wanted = c.divide-2.ensures in
    cut_two c.args.self.now c.with_only-one.result c.with_only-rest.result c.divide.result.1 c.divide.result.0 c.divide-2.result.1 c.divide-2.result.0
    own.parts wanted.parts c.with_only-one.ensures c.with_only-rest.ensures
    (omega (arith, own.count, wanted.count)) (omega (arith, own.count, wanted.count))
