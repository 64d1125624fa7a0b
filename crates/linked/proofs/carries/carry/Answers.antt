use Rattle.linked.proofs.Carrying.{carry_made}
use Rattle.linked.proofs.carries.carry.Goals as goal

pub returns : goal.returns
returns c =
    carry_made c.args.others c.columns-all.result c.args.a c.args.b c.union-joined.result
    c.requires.a_small c.requires.b_small c.columns-all.ensures c.union-joined.ensures
