use Rattle.std.proofs.Common.{refl, ap, ◌∙◌}
use lib.ListN.{get_or-replicate}
use borrow.Author.Tests.{both_ways}
use Rattle.linked.specs.Bits.{has}
use Rattle.linked.specs.Stands.{none}
use Rattle.linked.proofs.facts.nobody.Goals as goal

pub returns : goal.returns
returns c =
    record {
      all = refl;
      none = λ x y h m. both_ways _ (ap (λ r. has r y) (get_or-replicate 64 x c.new-empty.result none h) ∙ c.new-empty.ensures y) m;
    }
