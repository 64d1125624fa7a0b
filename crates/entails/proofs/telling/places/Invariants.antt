use Rattle.std.proofs.Common.{◌≡◌, ℕ, ◌<◌, length, get_or}
use Rattle.linked.specs.Stands.{root}
use Rattle.entails.proofs.telling.places.Given as goal

abbrev pub invariant-loop-x : goal.invariant-loop-x
invariant-loop-x l =
    (length l.places ≡ 64) × ((y : ℕ) → y < l.x → (y < l.names → get_or l.places y 0 ≡ root l.known.stands y) × (get_or l.places y 0 < l.names))
