use Rattle.linked.proofs.Sets.{has-none}
use Rattle.linked.proofs.bits.NameSet.new.Goals as goal

pub returns : goal.returns
returns c = has-none
