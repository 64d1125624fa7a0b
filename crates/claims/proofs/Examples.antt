-- The definitions at work: a memory of two cells, its parts, what names are in it, an empty row, and a question as words.
use Rattle.std.proofs.Common.{◌≡◌, T, [], ◌∷◌, refl, arith}
use Rattle.std.specs.List.{AllByRecursion}
use Rattle.claims.specs.Claims.{same, other, cell, row, Question}
use Rattle.claims.specs.Words.{words, Reads}
use Rattle.claims.specs.Memory.{Names, Memory, sound, Parts, none_p, left_p, right_p, IsRow, no_cells, some_cells, PureHolds, no_more, one_more, Says}

-- 1 leads to 2, and 2 nowhere
abbrev pub two_cells : Memory
two_cells = record { place = 1; holds = 2 } ∷ record { place = 2; holds = 0 } ∷ []

pub two_sound : T (sound two_cells)
two_sound = tt

pub two_parts : Parts (record { place = 1; holds = 2 } ∷ []) (record { place = 2; holds = 0 } ∷ []) two_cells
two_parts = left_p (right_p none_p)

-- the names 1 and 2 stand for the places 1 and 2
abbrev pub two_names : Names
two_names = 0 ∷ 1 ∷ 2 ∷ []

pub two_pures : AllByRecursion (PureHolds two_names) (other 1 2 ∷ same 1 1 ∷ other 2 0 ∷ [])
two_pures = ((λ e. omega arith), (refl, ((λ e. omega arith), tt)))

pub empty_row : IsRow 5 5 []
empty_row = no_cells refl

-- a row from 2 nowhere is the second cell
pub second_row : IsRow 2 0 (record { place = 2; holds = 0 } ∷ [])
second_row = some_cells (λ e. omega arith) (λ e. omega arith) (left_p none_p) (no_cells refl)

-- does a cell from 1 to 2 with a row from 2 nowhere say that 1 isn't nowhere and a row from 1 nowhere
abbrev pub question : Question
question =
    record { names = 3; first = record { pures = []; atoms = cell 1 2 ∷ row 2 0 ∷ [] }; second = record { pures = other 1 0 ∷ []; atoms = row 1 0 ∷ [] } }

pub question_words : words question ≡ 3 ∷ 0 ∷ 2 ∷ 2 ∷ 1 ∷ 2 ∷ 3 ∷ 2 ∷ 0 ∷ 1 ∷ 1 ∷ 1 ∷ 1 ∷ 0 ∷ 3 ∷ 1 ∷ 0 ∷ []
question_words = refl

pub question_reads : Reads (words question) question
question_reads =
    record {
      is = refl;
      limits =
          record {
            some_names = omega arith;
            few_names = omega arith;
            first_fits = record { few_pures = omega arith; few_atoms = omega arith; pures_below = tt; atoms_below = omega arith };
            second_fits = record { few_pures = omega arith; few_atoms = omega arith; pures_below = omega arith; atoms_below = omega arith };
          };
    }

-- both claims hold of the two cells
pub first_holds : Says two_names two_cells question.first
first_holds =
    record {
      pures = tt;
      atoms = one_more two_parts ((λ e. omega arith), refl) (one_more (left_p none_p) second_row no_more);
    }

pub second_holds : Says two_names two_cells question.second
second_holds =
    record {
      pures = ((λ e. omega arith), tt);
      atoms = one_more (left_p (left_p none_p)) (some_cells (λ e. omega arith) (λ e. omega arith) two_parts second_row) no_more;
    }
