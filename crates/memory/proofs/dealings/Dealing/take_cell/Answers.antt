use Rattle.std.proofs.Common.{◌≡◌, rules, refl}
use Rattle.memory.proofs.Marking.{sound_rest}
use Rattle.memory.proofs.Walking.{cell_found, cell_absent, cell_elsewhere}
use Rattle.memory.proofs.dealings.Dealing.take_cell.Goals as goal

pub returns-in-Some-clause-taken : goal.returns-in-Some-clause-taken
returns-in-Some-clause-taken c =
    let d = c.args.self.now in
    let same : c.in-Some.next.0 ≡ c.args.to.0 = search rules in
    cell_found (sound_rest d.memory.words.now d.marks.now d.memory.sound) (rw same at c.in-Some.ensures.stepped)

pub returns-in_default-clause-taken : goal.returns-in_default-clause-taken
returns-in_default-clause-taken c =
    let d = c.args.self.now in
    let other : c.in-Some.next.0 ≡ c.args.to.0 → ⊥ = search rules in
    ((λ f t. cell_elsewhere (sound_rest d.memory.words.now d.marks.now d.memory.sound) c.in-Some.ensures.stepped other t), refl)

pub returns-in_default-2-clause-taken : goal.returns-in_default-2-clause-taken
returns-in_default-2-clause-taken c = ((λ f t. cell_absent (rw c.in_default.is at c.step.ensures.stepped) t), refl)
