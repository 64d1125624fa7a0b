use Rattle.std.specs.Prelude.{◌≡◌, ℕ, ◌-◌, ◌≤◌, List, ◌++◌, length, take, drop, replicate}
use Rattle.std.proofs.Common.{sym, ap, subst, ◌∙◌}
use Rattle.std.proofs.lemmas.List.{length-take-le, take-append-drop}
use Rattle.naive.specs.declared.cells.Cell.{Cell}

-- what stands for no cell: it is nowhere and leads nowhere
abbrev pub nothing : Cell
nothing = record { place = 0; leads = 0 }

-- the array of 16 that has just these cells at its front
abbrev pub padded : List Cell → List Cell
padded cells = cells ++ replicate (16 - length cells) nothing

-- An array of 16 has so many cells at its front, and nothing behind them. So it is the padded list of those cells, and a memory
-- is given by that list.
pub record IsPadded (count : ℕ) (array : List Cell) : Type 0 where
  pub few : count ≤ 16
  pub full : length array ≡ 16
  pub rest : drop count array ≡ replicate (16 - count) nothing

pub padded_count : (count : ℕ) (array : List Cell) → IsPadded count array → length (take count array) ≡ count
padded_count count array h = length-take-le count array (subst (λ n. count ≤ n) (sym h.full) h.few)

pub padded_same : (count : ℕ) (array : List Cell) → IsPadded count array → padded (take count array) ≡ array
padded_same count array h =
    ap (λ n. take count array ++ replicate (16 - n) nothing) (padded_count count array h)
    ∙ (ap (λ rest. take count array ++ rest) (sym h.rest) ∙ take-append-drop count array)
