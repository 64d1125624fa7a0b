use Rattle.std.proofs.Common.{◌∙◌, arith}
use Rattle.claims.specs.Meaning.{pure_of, atom_of}
use Rattle.notation.proofs.Numbered.{claim_numbered}
use Rattle.notation.proofs.numbering.Table.claim.Goals as goal

pub returns : goal.returns
returns c =
    let pures = c.in_ok-pures.ensures.order in
    let atoms = c.in_ok-atoms.ensures.order in
    record {
      same = c.parts-2.ensures.same ∙ c.parts.ensures.same;
      order =
          claim_numbered pure_of atom_of _ _ pures.0 atoms.0
          (omega (arith, c.in_ok-pures.pures.ok.0, pures.1, c.as_slice.ensures.len, c.args.draft.now.few_pures))
          (omega (arith, c.in_ok-atoms.atoms.ok.0, atoms.1, c.as_slice-2.ensures.len, c.args.draft.now.few_atoms));
    }
