use Rattle.memory.proofs.Marking.{step_absent, step_taken, step_out}
use Rattle.memory.proofs.dealings.Dealing.step.Goals as goal

pub returns-in_err-i-clause-stepped : goal.returns-in_err-i-clause-stepped
returns-in_err-i-clause-stepped c =
    let d = c.args.self.now in
    rw c.from_residual.ensures (step_absent d.memory.words.now d.marks.now c.args.from.0 c.in_err-i.ensures.at)

pub returns-then-self-i-ne0-clause-stepped : goal.returns-then-self-i-ne0-clause-stepped
returns-then-self-i-ne0-clause-stepped c =
    let d = c.args.self.now in
    let at = c.in_ok-i.ensures.at in
    step_taken d.memory.words.now d.marks.now c.args.from.0 c.in_ok-i.i c.in_ok-i.next.0 at.0 at.1 d.memory.sound c.if-self-i-ne0.true

pub returns-clause-stepped : goal.returns-clause-stepped
returns-clause-stepped c =
    let d = c.args.self.now in
    let at = c.in_ok-i.ensures.at in
    step_out d.memory.words.now d.marks.now c.args.from.0 c.in_ok-i.i c.in_ok-i.next.0 at.0 at.1 d.room c.if-self-i-ne0.false
