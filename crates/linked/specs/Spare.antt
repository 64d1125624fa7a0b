-- What an array of atoms holds where none was put.
use Rattle.claims.specs.declared.parts.Atom.{Atom}
use Rattle.claims.specs.declared.parts.Atom.TheVariants.{Cell}

abbrev pub spare : Atom
spare = Cell (record { 0 = 0 }) (record { 0 = 0 })
