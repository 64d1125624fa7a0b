use Rattle.std.proofs.Common.{◌≡◌, length}
use Rattle.claims.specs.Memory.{sound}
use Rattle.memory.specs.Marks.{memory_of}
use Rattle.memory.proofs.Placing.{cells_of}
use Rattle.memory.proofs.cells.is_sound.Given as goal

abbrev pub invariant-cells : goal.invariant-cells
invariant-cells l = sound (memory_of l.memory) ≡ sound (cells_of l.cells)

abbrev pub decreases-cells : goal.decreases-cells
decreases-cells l = length l.cells
