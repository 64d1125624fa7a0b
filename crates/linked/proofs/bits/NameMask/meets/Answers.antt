use Rattle.std.proofs.Common.{◌<◌, ◌^◌, bit_and, rules}
use Rattle.linked.proofs.BitLaws.{bit_some}
use Rattle.linked.proofs.bits.NameMask.meets.Goals as goal

pub returns : goal.returns
returns c h =
    let some : 0 < bit_and c.args.self.0 c.args.other.0 = search rules in
    let small : bit_and c.args.self.0 c.args.other.0 < 2 ^ 64 = search rules in
    bit_some c.args.self.0 c.args.other.0 some small
