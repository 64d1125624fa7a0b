use Rattle.std.proofs.Common.{sym, ap, ◌∙◌}
use Rattle.claims.specs.Memory.{sound}
use Rattle.memory.proofs.Placing.{cells_of, cells_whole, unsound_nowhere, unsound_twice, sound_more}
use Rattle.memory.proofs.cells.is_sound.Goals as goal
use Rattle.memory.proofs.cells.is_sound.Goals.{then-place-eq0-via-then-place-eq0, then-place-eq0-via-else-place-eq0+then-is_some}

pub cells-init : goal.cells-init
cells-init c = sym (ap sound (ap cells_of c.as_chunks.ensures.front ∙ cells_whole c.args.memory.now))

pub returns-then-place-eq0 : goal.returns-then-place-eq0
returns-then-place-eq0 c =
    let cs = c.cells.cells.now in
    let some = c.in-len1-up.len_at_least in
    sym (c.cells.invariant ∙ elim c.then-place-eq0.branch [
      | then-place-eq0-via-then-place-eq0 w ↦ unsound_nowhere cs some w.if-place-eq0.true
      | then-place-eq0-via-else-place-eq0+then-is_some w ↦ unsound_twice cs some w.first_at.result w.first_at.ensures (sym w.is_some.ensures ∙ w.if-is_some.true)
    ])

pub cells-preserved : goal.cells-preserved
cells-preserved c =
    let cs = c.cells.cells.now in
    let some = c.in-len1-up.len_at_least in
    c.cells.invariant ∙ sound_more cs some c.first_at.result c.first_at.ensures c.if-place-eq0.false (sym c.is_some.ensures ∙ c.if-is_some.false)
