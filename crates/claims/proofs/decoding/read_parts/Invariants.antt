use Rattle.claims.proofs.Putting.{Put}
use Rattle.claims.proofs.decoding.read_parts.Given as goal

abbrev pub invariant-loop-i : goal.invariant-loop-i
invariant-loop-i g l = Put g.P.Part.words_of (g.P.Part.Below l.names) g.P.Part.meaning g.row.N l.words l.i l.parts
