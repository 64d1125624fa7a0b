use Rattle.std.proofs.Common.{refl, ◌∙◌}
use Rattle.notation.proofs.Numbered.{both_accepted}
use Rattle.notation.proofs.numbering.numbered.Goals as goal

pub returns : goal.returns
returns c =
    let table = c.claim-2.new.self in
    record {
      in_text = refl;
      accepted =
          both_accepted _ _ _ _ c.in_ok-table.ensures.one c.len.ensures table.few table.names.ok.0
          (c.claim-2.ensures.same ∙ c.claim.ensures.same ∙ c.in_ok-table.ensures.same) table.nowhere table.distinct
          c.in_ok-first.ensures.order c.in_ok-second.ensures.order;
    }
