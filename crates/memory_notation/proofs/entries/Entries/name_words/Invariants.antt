use Rattle.std.proofs.Common.{vec_items}
use Rattle.memory_notation.specs.Placing.{Placed}
use Rattle.memory_notation.proofs.entries.Entries.name_words.Given as goal

abbrev pub invariant-loop-i : goal.invariant-loop-i
invariant-loop-i l = Placed (vec_items l.self.places) l.i (vec_items l.words)
