use Rattle.std.proofs.Common.{◌++◌, map, vec_items, sym, ap, ◌∙◌}
use Rattle.std.proofs.lemmas.Result.{on_ok_weaker}
use lib.ListN.{length-map}
use Rattle.std.specs.List.{flat_map}
use Rattle.claims.specs.Meaning.{pure_of, atom_of, claim_of}
use Rattle.claims.specs.Words.{pure_words, atom_words}
use Rattle.claims.proofs.ClaimWords.{claim_pushed}
use Rattle.claims.proofs.questions.push_claim.Goals as goal

pub returns : goal.returns
returns c =
    let k = c.args.claim.now in
    on_ok_weaker c.push_parts-2.result
    (λ last. claim_pushed (claim_of k) c.len.result c.len-2.result (vec_items c.args.out.now) (vec_items c.push.new.self) (vec_items c.push-2.new.self) (vec_items c.push_parts.new.out) (vec_items c.push_parts-2.new.out)
    (length-map (vec_items k.pures) pure_of ∙ sym k.pures.ok.0 ∙ sym c.len.ensures)
    (length-map (vec_items k.atoms) atom_of ∙ sym k.atoms.ok.0 ∙ sym c.len-2.ensures)
    c.in_ok-push.ensures.items
    c.in_ok-push-2.ensures.items
    (c.in_ok-push_parts.ensures ∙ ap (λ u. vec_items c.push-2.new.self ++ flat_map pure_words (map pure_of u)) c.as_slice.ensures.value)
    (last ∙ ap (λ u. vec_items c.push_parts.new.out ++ flat_map atom_words (map atom_of u)) c.as_slice-2.ensures.value))
    c.push_parts-2.ensures
