use Rattle.std.proofs.Common.{◌≡◌, vec_items, vec_len}
use Rattle.std.specs.List.{flat_map}
use Rattle.notation.specs.Order.{InOrder}
use Rattle.notation.proofs.numbering.Table.parts.Given as goal

abbrev pub invariant-loop-draft : goal.invariant-loop-draft
invariant-loop-draft g l =
    InOrder (vec_len l.initial.self.names) (flat_map g.D.Drafted.names (vec_items l.parts)) (vec_len l.self.names) ×
    (vec_len l.parts ≡ l.draft-index) ×
    (l.self.text.now ≡ l.initial.self.text.now)
