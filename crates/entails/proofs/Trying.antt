-- Memories that were tried, and none is against it.
--
-- stretches_more: one place more; atoms_count: how many atoms the first claim has; all_tried: so it follows for all names of the pattern.
use Rattle.std.proofs.Common.{◌≡◌, ℕ, ◌+◌, ◌<◌, length, take, sym, ◌∙◌, subst, ⊎_elim, arith}
use lib.ListN.{length-map}
use Rattle.std.proofs.lemmas.List.{length-take-le}
use Rattle.std.proofs.lemmas.Bool.{cases_eq}
use Rattle.claims.specs.Meaning.{atom_of}
use Rattle.claims.specs.Memory.{Names, Memory}
use Rattle.models.specs.Generic.{generic, stretched, Trial, plain, through}
use Rattle.models.proofs.Tried.{tried}
use Rattle.linked.specs.declared.known.Known.{Known}
use Rattle.matching.specs.Rules.{StandsAt}
use Rattle.entails.specs.Telling.{first_of, second_of, NotAgainst}
use Rattle.entails.specs.Trying.{StretchesTried, FollowsSo}
use Rattle.entails.specs.declared.goals.Goal.{Goal}

pub stretches_more :
    (g : Goal) (n : Names) (i e : ℕ) → StretchesTried g n i e → NotAgainst g n (stretched n (first_of g).atoms i e) →
    StretchesTried g n i (e + 1)
stretches_more g n i e before now-too t l1 l2 =
    ⊎_elim (λ same. subst (λ u. NotAgainst g n (stretched n (first_of g).atoms i u)) (sym same) now-too) (λ ne. before t l1 (omega arith))
    (cases_eq t e)

pub all_tried :
    (g : Goal) (k : Known) (n : Names) → StandsAt g.names k n → NotAgainst g n (generic n (first_of g).atoms) →
    ((i : ℕ) → i < length (first_of g).atoms → StretchesTried g n i (g.names + 1)) → FollowsSo g k
all_tried g k n stand none each =
    record {
      names = n;
      stand = stand;
      follows = tried g.names n (first_of g) (second_of g) g.limits.some_names stand.below g.limits.first_fits g.limits.second_fits (λ m t. go t);
    }
  where
    go : {m : Memory} → Trial g.names n (first_of g).atoms m → NotAgainst g n m
    go plain = none
    go (through i t li l1 lt) = each i li t l1 (omega arith)

-- how many atoms the first claim has
pub atoms_count : (g : Goal) → length (first_of g).atoms ≡ g.first.shape.atoms
atoms_count g =
    length-map (take g.first.shape.atoms g.first.atoms) atom_of ∙
    length-take-le g.first.shape.atoms g.first.atoms (omega (arith, g.first.atoms_room, g.first.shape.few_atoms))
