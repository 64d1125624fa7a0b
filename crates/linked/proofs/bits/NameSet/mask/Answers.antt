use Rattle.std.proofs.Common.{rules}
use Rattle.linked.proofs.Sets.{has_mask}
use Rattle.linked.proofs.bits.NameSet.mask.Goals as goal

pub returns : goal.returns
returns c = has_mask c.args.self c.from.result c.from-2.result c.from.ensures c.from-2.ensures (search rules) (search rules)
