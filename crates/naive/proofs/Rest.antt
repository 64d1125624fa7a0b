-- What lies behind the cells of a memory: nothing, and still nothing after one cell more or one less.
use Rattle.std.proofs.Common.{◌≡◌, ℕ, suc, ◌+◌, ◌-◌, ◌<◌, ◌≤◌, List, ◌∷◌, length, drop, set, replicate, sym, ap, ◌∙◌, arith}
use Rattle.std.proofs.lemmas.List.{drop-drop, drop-set-lt, drop-set, drop-replicate}
use Rattle.naive.specs.declared.cells.Cell.{Cell}
use Rattle.naive.specs.Padded.{nothing, IsPadded}

-- from any later index on it is the same
rest_later : (count n : ℕ) (array : List Cell) → IsPadded count array → count ≤ n → drop n array ≡ replicate (16 - n) nothing
rest_later count n array h le =
    let further : count + (n - count) ≡ n = omega arith in
    let left : 16 - count - (n - count) ≡ 16 - n = omega arith in
    ap (λ m. drop m array) (sym further)
    ∙ (sym (drop-drop (n - count) count array)
    ∙ (ap (drop (n - count)) h.rest
    ∙ (drop-replicate (n - count) (16 - count) nothing
    ∙ ap (λ m. replicate m nothing) left)))

-- one cell more, behind the others
pub rest_of_more : (count : ℕ) (array : List Cell) (cell : Cell) → IsPadded count array → drop (count + 1) (set array count cell) ≡ replicate (16 - (count + 1)) nothing
rest_of_more count array cell h =
    drop-set-lt (count + 1) array count cell (omega arith) ∙ rest_later count (count + 1) array h (omega arith)

-- without the last cell, if there is one
pub rest_of_less : (count n : ℕ) (array : List Cell) → IsPadded count array → n ≡ count - 1 → drop n (set array n nothing) ≡ replicate (16 - n) nothing
rest_of_less count n array h e =
    let few : count ≤ 16 = h.few in
    let inside : n < length array = omega (arith, h.full) in
    let one : suc (16 - (n + 1)) ≡ 16 - n = omega arith in
    drop-set array n nothing inside
    ∙ (ap (λ cells. nothing ∷ cells) (rest_later count (n + 1) array h (omega arith))
    ∙ ap (λ m. replicate m nothing) one)
