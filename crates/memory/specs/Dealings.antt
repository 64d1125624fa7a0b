-- What is left of a memory that is dealt out.
use Rattle.claims.specs.Memory.{Memory}
use Rattle.memory.specs.Marks.{rest_of}
use Rattle.memory.specs.declared.dealings.Dealing.{Dealing}

-- the cells that are not taken
abbrev pub rest : Dealing → Memory
rest d = rest_of d.memory.words.now d.marks.now
