use Rattle.std.proofs.Common.{sym, ◌∙◌}
use Rattle.linked.proofs.Sets.{has_low, has_high}
use Rattle.linked.proofs.bits.NameSet.has.Goals as goal

pub returns-then-x-lt32 : goal.returns-then-x-lt32
returns-then-x-lt32 c = c.bit_of.ensures ∙ sym (has_low c.args.self.now c.args.x c.if-x-lt32.true)

pub returns-else-x-lt32 : goal.returns-else-x-lt32
returns-else-x-lt32 c = c.bit_of-else-x-lt32.ensures ∙ sym (has_high c.args.self.now c.args.x c.if-x-lt32.false)
