-- What is told is against it.
--
-- names_alike, front_against: as many names as there are mean the same as all that are written.
-- told_length: how many cells are told; told_trial: what is told of a trial that is against it.
use Rattle.std.proofs.Common.{◌≡◌, ℕ, zero, suc, ◌*◌, length, take, sym, refl, ap, subst₂, arith}
use Rattle.std.proofs.lemmas.List.{get_or-take, length-take-le}
use Rattle.claims.specs.Memory.{Names, Memory}
use Rattle.memory.proofs.Alike.{Alike, alike_sym, says_alike}
use Rattle.memory.proofs.Marking.{length_memory}
use Rattle.models.specs.Follows.{Against}
use Rattle.entails.specs.Telling.{told_memory, first_of, second_of, tried, IsAgainst, ToldAgainst, TrialAgainst}
use Rattle.entails.specs.declared.told.Told.{Told}
use Rattle.entails.specs.declared.stretches.Trial.{Trial}
use Rattle.entails.proofs.Stretching.{tried-enough}
use Rattle.entails.specs.declared.goals.Goal.{Goal}

pub names_alike : (m : ℕ) (g : Names) → Alike m g (take m g)
names_alike m g zero l = refl
names_alike m g (suc x) l = sym (get_or-take m g (suc x) 0 l)

pub told_length : (t : Told) → length (told_memory t) ≡ t.count
told_length t =
    let words = length-take-le (2 * t.count) t.cells (omega (arith, t.few, t.room)) in
    omega (arith, length_memory (take (2 * t.count) t.cells))

-- names and a memory that are against it are so with just as many names as there are
pub front_against :
    (g : Goal) (n : Names) (m : Memory) → length n ≡ 64 → IsAgainst g n m → Against g.names (first_of g) (second_of g) (take g.names n) m
front_against g n m long against =
    let alike = names_alike g.names n in
    let back = alike_sym g.names n (take g.names n) alike in
    record {
      names = length-take-le g.names n (omega (arith, g.limits.few_names));
      sound_m = against.sound_m;
      says = says_alike g.names n (take g.names n) alike g.limits.first_fits against.says;
      not = λ s. against.not (says_alike g.names (take g.names n) n back g.limits.second_fits s);
    }

-- what is told of a trial that is against it
pub told_trial :
    (g : Goal) (r : Trial) (t : Told) → t.names ≡ r.names → told_memory t ≡ tried r.names (first_of g).atoms r.stretch → TrialAgainst g r →
    ToldAgainst g t
told_trial g r t names cells against =
    record {
      against = subst₂ (λ n m. Against g.names (first_of g) (second_of g) (take g.names n) m) (sym names) (sym cells) against;
      small = omega (arith, told_length t, ap length cells, tried-enough r.names (first_of g).atoms r.stretch);
    }
