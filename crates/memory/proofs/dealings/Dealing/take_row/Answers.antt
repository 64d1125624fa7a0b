use Rattle.std.proofs.Common.{◌≡◌, rules, Err, sym, refl, ◌∙◌}
use Rattle.std.proofs.lemmas.Bool.{eqb-true, not-false}
use Rattle.memory.specs.Dealings.{rest}
use Rattle.memory.proofs.Marking.{sound_rest}
use Rattle.memory.proofs.Walking.{walked_start, walked_step, walked_end, walked_stuck, one_fewer}
use Rattle.memory.proofs.dealings.Dealing.take_row.Goals as goal

pub steps-init : goal.steps-init
steps-init c = record { memory = refl; walked = walked_start c.args.from.0 c.args.to.0 (rest c.args.self.now) }

pub returns-in_err-place-clause-taken : goal.returns-in_err-place-clause-taken
returns-in_err-place-clause-taken c =
    let d = c.args.self.now in
    let none = c.in_err-place.ensures.ok_part in
    let value = rw none at c.in_err-place.ensures.value in
    let same : c.steps.place ≡ c.in_err-place.field-0.0 = cc value in
    let ne : c.steps.place.0 ≡ c.args.to.0 → ⊥ = search rules in
    let stuck = walked_stuck (sound_rest d.memory.words.now d.marks.now d.memory.sound) c.steps.invariant.walked ne (rw none at c.step.ensures.stepped) in
    let passed : c.from_residual.result ≡ Err c.in_err-place.field-0.0 = search rules in
    rw passed (rw (← same) stuck)

pub steps-smaller : goal.steps-smaller
steps-smaller c = one_fewer (rw c.in_ok-place.ensures.ok_part at c.step.ensures.stepped)

pub steps-preserved : goal.steps-preserved
steps-preserved c =
    let d = c.steps.self in
    record {
      memory = c.step.ensures.memory ∙ c.steps.invariant.memory;
      walked = walked_step c.steps.invariant.walked (sound_rest d.memory.words.now d.marks.now d.memory.sound) (search rules)
          (rw c.in_ok-place.ensures.ok_part at c.step.ensures.stepped);
    }

pub returns-clause-taken : goal.returns-clause-taken
returns-clause-taken c =
    walked_end c.steps.invariant.walked
    (eqb-true c.steps.place.0 c.args.to.0 (not-false _ (sym c.ne.ensures ∙ c.steps-test.false)))
