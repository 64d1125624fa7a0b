use Rattle.std.proofs.Common.{min, length, ap, ◌∙◌}
use Rattle.std.specs.List.{between}
use Rattle.notation.proofs.Spelled.{cut_span}
use Rattle.notation.proofs.spans.Span.of.Goals as goal

pub returns : goal.returns
returns c =
    let xs = c.args.text.now in
    let s = c.args.self.start in
    let cut = c.min-end.ensures in
    ap (λ e. between c.min-start.result e xs) cut ∙
    ap (λ i. between i (min c.args.self.end (length xs)) xs) (c.min-start.ensures ∙ ap (λ e. min s e) cut) ∙
    cut_span s c.args.self.end xs
