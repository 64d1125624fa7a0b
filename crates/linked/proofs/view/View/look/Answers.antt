use Rattle.std.proofs.Common.{◌<◌, length, sym, ap, ◌∙◌, arith}
use Rattle.claims.specs.Claims.{row}
use Rattle.claims.specs.Meaning.{atom_of}
use Rattle.memory.specs.Owners.{start}
use Rattle.linked.specs.Living.{atoms_of}
use Rattle.linked.proofs.Reach.{live-length, never_cell, empty_row, round_row, barred_same, reached_same}
use Rattle.linked.proofs.view.View.look.Goals as goal
use Rattle.linked.proofs.view.View.look.Goals.{then-barred-2, else-barred-2}

pub returns-in-Cell : goal.returns-in-Cell
returns-in-Cell c =
    let v = c.args.self.now in
    let r = c.reach-reach.result in
    let is = c.reach-reach.ensures in
    let from = is.from ∙ c.start.ensures ∙ ap (λ a. start (atom_of a)) c.in-Cell.is in
    never_cell v.known.now (atoms_of v.live.now) c.args.e c.in-Cell.field-0.0 c.in-Cell.field-1.0
    (omega (arith, live-length v.live.now)) (c.in-Cell.ensures.is (row 0 0))
    (barred_same v.known.now r.live.now v.live.now r.without c.args.e r.from c.in-Cell.field-0.0 is.live is.without from (c.is_barred-barred.ensures c.if-barred.true))

pub returns-in-Row : goal.returns-in-Row
returns-in-Row c =
    let v = c.args.self.now in
    let r = c.reach-reach.result in
    let is = c.reach-reach.ensures in
    let x = c.in-Row.x.0 in
    let y = c.in-Row.y.0 in
    let from = is.from ∙ c.start.ensures ∙ ap (λ a. start (atom_of a)) c.in-Row.is in
    let within : c.args.e < length (atoms_of v.live.now) = omega (arith, live-length v.live.now) in (
      c.in-Row.ensures.start,
      c.in-Row.ensures.end,
      elim c.if-barred-2.branch [
        | then-barred-2 w ↦
            empty_row v.known.now (atoms_of v.live.now) c.args.e x y within (c.in-Row.ensures.is (row 0 0))
            (barred_same v.known.now r.live.now v.live.now r.without c.args.e r.from x is.live is.without from (c.is_barred-barred.ensures w.if-barred-2.true))
        | else-barred-2 w ↦
            round_row v.known.now (atoms_of v.live.now) c.args.e x y within r.names.0 (c.in-Row.ensures.is (row 0 0))
            (reached_same r.names.0 r.live.now v.live.now r.without c.args.e r.from x is.live is.without from r.reached)
            (sym (w.has.ensures c.in-Row.ensures.end) ∙ sym w.value-is ∙ c.if-has.true)
      ],
    )
