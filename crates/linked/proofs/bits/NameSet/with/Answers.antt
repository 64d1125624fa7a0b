use Rattle.linked.proofs.Sets.{has_with_low, has_with_high}
use Rattle.linked.proofs.bits.NameSet.with.Goals as goal

pub returns-then-x-lt32 : goal.returns-then-x-lt32
returns-then-x-lt32 c = has_with_low c.args.self c.with_bit.result c.args.x c.if-x-lt32.true c.with_bit.ensures

pub returns-else-x-lt32 : goal.returns-else-x-lt32
returns-else-x-lt32 c = has_with_high c.args.self c.with_bit-else-x-lt32.result c.args.x c.if-x-lt32.false c.with_bit-else-x-lt32.ensures
