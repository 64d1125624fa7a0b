use Rattle.linked.proofs.BitLaws.{bit_with}
use Rattle.linked.proofs.bits.with_bit.Goals as goal

pub returns : goal.returns
returns c j = bit_with c.args.w c.args.k 32 j c.requires
