use Rattle.std.proofs.Common.{◌≡◌, ◌*◌, ◌≤◌, map, take}
use Rattle.claims.specs.Meaning.{atom_of}
use Rattle.entails.specs.Telling.{told_memory, tried}
use Rattle.entails.proofs.trials.write.Given as goal

abbrev pub invariant-loop-i : goal.invariant-loop-i
invariant-loop-i l =
    (l.told.names ≡ l.trial.names) × (l.told.count ≤ 2 * l.i-counter) ×
    (told_memory l.told ≡ tried l.trial.names (map atom_of (take l.i-counter l.atoms)) l.trial.stretch)
