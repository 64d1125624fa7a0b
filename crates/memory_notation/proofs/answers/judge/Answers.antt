use Rattle.std.proofs.Common.{◌≡◌, Ok, Err, ap, ◌∙◌}
use Rattle.memory_notation.proofs.Told.{told}
use Rattle.memory_notation.proofs.answers.judge.Goals as goal

pub returns-in-Ok-Ok : goal.returns-in-Ok-Ok
returns-in-Ok-Ok c =
    let inner : c.in-Ok-Ok.field-0 ≡ Ok tt = rw c.in-Ok-Ok.is at c.in-Ok-Ok.field-0-is in
    (_, told _ _ _ _ _ _ _ _ _ _ c.check-checked.ensures c.as_slice.ensures.value c.as_slice-2.ensures.value c.as_slice-3.ensures.value (c.in-Ok-Ok.is ∙ ap Ok inner))

pub returns-in-Ok-Err : goal.returns-in-Ok-Err
returns-in-Ok-Err c =
    let inner : c.in-Ok-Err.field-0 ≡ Err c.in-Ok-Err.why = rw c.in-Ok-Err.is at c.in-Ok-Err.field-0-is in
    (c.in-Ok-Err.why, (_, told _ _ _ _ _ _ _ _ _ _ c.check-checked.ensures c.as_slice.ensures.value c.as_slice-2.ensures.value c.as_slice-3.ensures.value (c.in-Ok-Err.is ∙ ap Ok inner)))
