use Rattle.std.proofs.Common.{◌+◌, ◌*◌, ◌≤◌}
use Rattle.linked.specs.Knowing.{open_pairs}
use Rattle.matching.specs.Parting.{size}
use Rattle.entails.specs.Reducing.{PartSettled, PartOf}
use Rattle.entails.proofs.goals.Goal.+search.Given as goal

abbrev pub decreases-search : goal.decreases-search
decreases-search l = 256 * open_pairs l.known + size l.part

abbrev pub invariant-others : goal.invariant-others
invariant-others l =
    (PartSettled l.self l.known l.part → PartSettled l.self l.initial.known l.initial.part) ×
    PartOf l.self l.known l.part ×
    (256 * open_pairs l.known + size l.part ≤ 256 * open_pairs l.initial.known + size l.initial.part)

abbrev pub decreases-others : goal.decreases-others
decreases-others l = 256 * open_pairs l.known + size l.part
