use Rattle.naive.proofs.cells.Cells.is_row.Given as goal

-- with each step a cell less is left
abbrev pub decreases-loop-at : goal.decreases-loop-at
decreases-loop-at l = l.left
