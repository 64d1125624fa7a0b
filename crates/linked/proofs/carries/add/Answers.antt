use Rattle.std.proofs.Common.{rules}
use Rattle.linked.proofs.Knowledge.{added}
use Rattle.linked.proofs.carries.add.Goals as goal

pub returns : goal.returns
returns c = added c.args.others c.args.a c.args.b c.with-row.result (search rules) c.requires.a_small c.requires.b_small c.with-row.ensures
