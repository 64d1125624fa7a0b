use Rattle.std.proofs.Common.{is_ok, refl, ap, ◌∙◌, arith}
use Rattle.std.proofs.ResultArms.{chosen}
use Rattle.notation.proofs.Numbered.{in-order-push, in-order-none}
use Rattle.notation.proofs.numbering.Table.parts.Goals as goal

pub loop-draft-init : goal.loop-draft-init
loop-draft-init g c = (in-order-none g.D.Drafted.names _ c.new-parts.ensures.items, c.new-parts.ensures.len, refl)

pub loop-draft-preserved : goal.loop-draft-preserved
loop-draft-preserved g c =
    let pushed = chosen _ _ _ _ c.push.ensures.items (ap is_ok c.in_ok-push.was) in (
      in-order-push g.D.Drafted.names _ _ _ pushed c.loop-draft.invariant.0 c.in_ok-part.ensures.order,
      omega (arith, chosen _ _ _ _ c.push.ensures.len (ap is_ok c.in_ok-push.was), c.loop-draft.invariant.1),
      c.part.ensures.same ∙ c.loop-draft.invariant.2,
    )
