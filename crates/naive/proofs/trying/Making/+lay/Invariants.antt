use Rattle.std.proofs.Common.{◌≡◌, ◌+◌, ◌-◌, ◌*◌, length}
use Rattle.naive.proofs.trying.Making.+lay.Given as goal

-- with each round there is a cell more, or one cell or row is behind
abbrev pub decreases-lay : goal.decreases-lay
decreases-lay l = 3 * ((16 - length l.self.now.cells) + length l.atoms.now)

abbrev pub decreases-lay_row : goal.decreases-lay_row
decreases-lay_row l = 3 * ((16 - length l.self.now.cells) + length l.rest.now) + 1

abbrev pub decreases-lay_cell : goal.decreases-lay_cell
decreases-lay_cell l = 3 * ((16 - length l.self.now.cells) + length l.rest.now)

abbrev pub invariant-lay_row-loop-place : goal.invariant-lay_row-loop-place
invariant-lay_row-loop-place l = length l.self.cells ≡ length l.fn.self.cells
