use Rattle.std.proofs.Common.{◌≡◌, ◌++◌, map, take, vec_items}
use Rattle.std.specs.List.{flat_map}
use Rattle.claims.proofs.questions.push_parts.Given as goal

abbrev pub invariant-loop-part : goal.invariant-loop-part
invariant-loop-part g l =
    vec_items l.out ≡ vec_items l.initial.out ++ flat_map g.P.Part.words_of (map g.P.Part.meaning (take l.part-index l.parts))
