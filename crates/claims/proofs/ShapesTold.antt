-- A decoded claim has the shape that it says.
use Rattle.std.proofs.Common.{length-take, arith}
use Rattle.std.proofs.lemmas.List.{length-map}
use Rattle.claims.specs.Decoding.{decoded_claim}
use Rattle.claims.specs.Meaning.{pure_of, atom_of}
use Rattle.claims.specs.Reading.{HasShape}
use Rattle.claims.specs.declared.decoded.Decoded.{Decoded}
use Rattle.std.specs.Prelude.{take}

pub has_shape : (d : Decoded) → HasShape (decoded_claim d) d.shape
has_shape d =
    record {
      pures = omega (arith, length-map (take d.shape.pures d.pures) pure_of, length-take d.shape.pures d.pures, d.pures_room, d.shape.few_pures);
      atoms = omega (arith, length-map (take d.shape.atoms d.atoms) atom_of, length-take d.shape.atoms d.atoms, d.atoms_room, d.shape.few_atoms);
    }
