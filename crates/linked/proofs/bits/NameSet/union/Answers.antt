use Rattle.linked.proofs.Sets.{has_union}
use Rattle.linked.proofs.bits.NameSet.union.Goals as goal

pub returns : goal.returns
returns c = has_union c.args.self c.args.other
