use Rattle.std.proofs.Common.{vec_items, arith}
use lib.ListN.{length-map}
use Rattle.claims.specs.Meaning.{pure_of, atom_of}
use Rattle.claims.proofs.questions.Question.words.Goals as goal

pub push_claim-requires : goal.push_claim-requires
push_claim-requires c =
    let k = c.args.self.now.first in
    let f = c.requires.first_fits in
    record {
      few_pures = omega (arith, f.few_pures, length-map (vec_items k.pures) pure_of, k.pures.ok.0);
      few_atoms = omega (arith, f.few_atoms, length-map (vec_items k.atoms) atom_of, k.atoms.ok.0);
    }

pub push_claim-requires-2 : goal.push_claim-requires-2
push_claim-requires-2 c =
    let k = c.args.self.now.second in
    let f = c.requires.second_fits in
    record {
      few_pures = omega (arith, f.few_pures, length-map (vec_items k.pures) pure_of, k.pures.ok.0);
      few_atoms = omega (arith, f.few_atoms, length-map (vec_items k.atoms) atom_of, k.atoms.ok.0);
    }
