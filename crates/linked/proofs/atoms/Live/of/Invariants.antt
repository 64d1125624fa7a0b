use Rattle.std.proofs.Common.{◌≤◌, map, take}
use Rattle.claims.specs.Meaning.{atom_of}
use Rattle.linked.specs.Living.{Lives}
use Rattle.linked.proofs.atoms.Live.of.Given as goal

abbrev pub invariant-loop-atom : goal.invariant-loop-atom
invariant-loop-atom l =
    (l.live.count ≤ l.atom-index) ×
    Lives l.known (map atom_of (take l.atom-index l.atoms)) (map atom_of (take l.live.count l.live.atoms))
