use Rattle.std.proofs.Common.{◌≡◌, ℕ, ◌<◌, ◌≤◌, [], length, get_or, is_ok, vec_items, sym, refl, ap, ◌∙◌, subst, arith, rules}
use Rattle.std.proofs.ResultArms.{chosen}
use Rattle.notation.specs.Spelling.{spellings, mention_spelling}
use Rattle.notation.proofs.Numbered.{one_known, one_new}
use Rattle.notation.proofs.Spelled.{no_bytes, first_kept, distinct_kept, last_spelled}
use Rattle.notation.proofs.numbering.Table.number.Goals as goal

pub returns-in_default : goal.returns-in_default
returns-in_default c = record {
  same = refl;
  spelled = no_bytes _ c.args.self.now.nowhere ∙ sym (ap (mention_spelling c.args.self.now.text.now) c.in_default.is);
  order = one_known (search rules);
}

pub returns-in-Some : goal.returns-in-Some
returns-in-Some c = record {
  same = refl;
  spelled =
      ap (λ l. get_or (spellings c.args.self.now.text.now l) c.in-Some.i []) (sym c.as_slice.ensures.value) ∙
      c.in-Some.ensures.found.1 ∙ c.of-spelled.ensures ∙ sym (ap (mention_spelling c.args.self.now.text.now) c.in-Name.is);
  order = one_known (omega (arith, c.in-Some.ensures.within, ap length c.as_slice.ensures.value, c.args.self.now.names.ok.0));
}

pub invariant_of-self : goal.invariant_of-self
invariant_of-self c =
    let table = c.args.self.now in
    let added = c.push.ensures.items in
    let none : (k : ℕ) → k < length (spellings table.text.now (vec_items table.names)) → get_or (spellings table.text.now (vec_items table.names)) k [] ≡ c.of-spelled.result.now → ⊥ =
    subst (λ l. (k : ℕ) → k < length (spellings table.text.now l) → get_or (spellings table.text.now l) k [] ≡ c.of-spelled.result.now → ⊥) c.as_slice.ensures.value c.in_default-find.ensures.found in
    let some : 1 ≤ length (vec_items table.names) = omega (arith, table.some, table.names.ok.0) in
    record {
      some = search rules;
      few = search rules;
      nowhere = first_kept _ _ _ _ _ added some table.nowhere;
      distinct = distinct_kept _ _ _ _ _ added table.distinct (λ k lt e. none k lt (e ∙ sym c.of-spelled.ensures));
    }

pub returns : goal.returns
returns c =
    let table = c.args.self.now in
    let added = chosen _ _ _ _ c.push.ensures.items (ap is_ok c.in_ok-push.was) in
    record {
      same = refl;
      spelled =
          last_spelled _ _ _ _ _ added (omega (arith, c.len-count.ensures, table.names.ok.0)) ∙
          sym (ap (mention_spelling table.text.now) c.in-Name.is);
      order = one_new (search rules) (search rules);
    }
