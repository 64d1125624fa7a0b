-- Where the reading of a text stops.
use Rattle.std.specs.Prelude.{ℕ, Some, None, Option}
use Rattle.notation.specs.declared.stops.Stop.{Stop}
use Rattle.notation.specs.declared.stops.Stop.TheVariants.{Memory, Fault}

-- the byte of the text where the fault is, if it is one
abbrev pub place_of : {P : Type 0} → Stop P → Option ℕ
place_of (Memory e) = None
place_of (Fault f) = Some f.at
