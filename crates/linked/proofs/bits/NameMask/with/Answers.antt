use Rattle.std.proofs.Common.{◌≡◌, ◌*◌, ◌%◌, ◌^◌, ap, ◌∙◌, arith, bit_or}
use Rattle.std.proofs.lemmas.Nat.{le_or_l}
use Rattle.linked.specs.Bits.{bit}
use Rattle.linked.proofs.BitLaws.{bit_with}
use Rattle.linked.proofs.bits.NameMask.with.Goals as goal

pub returns : goal.returns
returns c =
    record {
      bits =
          λ h y.
          let e : c.from.result % 64 ≡ c.args.x = omega (arith, c.from.ensures) in
          ap (λ w. bit (bit_or c.args.self.0 w) y) (c.wrapping_shl.ensures ∙ ap (λ k. 1 * 2 ^ k % 2 ^ 64) e) ∙ bit_with c.args.self.0 c.args.x 64 y h;
      grows = le_or_l c.args.self.0 c.wrapping_shl.result;
    }
