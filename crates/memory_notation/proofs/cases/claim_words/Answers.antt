use Rattle.std.proofs.Common.{vec_items, sym, ◌∙◌}
use lib.ListN.{length-map}
use Rattle.claims.specs.Meaning.{pure_of, atom_of, question_of}
use Rattle.memory_notation.proofs.Cut.{cut_claim, small, small_more}
use Rattle.memory_notation.proofs.cases.claim_words.Goals as goal

pub overflow_mul-most : goal.overflow_mul-most
overflow_mul-most c =
    let k = c.args.question.now.first in
    small c.requires (length-map (vec_items k.pures) pure_of ∙ sym k.pures.ok.0 ∙ sym c.len.ensures)
    (length-map (vec_items k.atoms) atom_of ∙ sym k.atoms.ok.0 ∙ sym c.len-2.ensures)

pub overflow_add-most-2 : goal.overflow_add-most-2
overflow_add-most-2 c =
    let k = c.args.question.now.first in
    small_more c.requires (length-map (vec_items k.pures) pure_of ∙ sym k.pures.ok.0 ∙ sym c.len.ensures)
    (length-map (vec_items k.atoms) atom_of ∙ sym k.atoms.ok.0 ∙ sym c.len-2.ensures)

pub returns : goal.returns
returns c =
    let k = c.args.question.now.first in
    cut_claim (question_of c.args.question.now) _ _ _ _ c.requires c.in_ok-words.ensures
    (length-map (vec_items k.pures) pure_of ∙ sym k.pures.ok.0 ∙ sym c.len.ensures)
    (length-map (vec_items k.atoms) atom_of ∙ sym k.atoms.ok.0 ∙ sym c.len-2.ensures) c.truncate.ensures.items
