use Rattle.std.proofs.Common.{sym, ◌∙◌, arith}
use Rattle.linked.specs.Living.{atoms_of}
use Rattle.linked.proofs.Reach.{barred_nowhere}
use Rattle.linked.proofs.reaching.Reach.is_barred.Goals as goal
use Rattle.linked.proofs.reaching.Reach.is_barred.Goals.{then-has, else-has}

pub returns-then-has_cell : goal.returns-then-has_cell
returns-then-has_cell c t =
    let r = c.args.self.now in
    elim c.if-has.branch [
      | then-has w ↦
          barred_nowhere c.args.known.now (atoms_of r.live.now) r.without r.from r.names.0 r.reached
          (sym (c.has.ensures (omega arith)) ∙ w.if-has.true)
      | else-has w ↦ w.has_cell.ensures (sym w.value-is ∙ c.if-has_cell.true) c.args.known.now
    ]
