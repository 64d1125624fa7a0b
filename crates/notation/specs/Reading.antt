-- What a reader promises.
use Rattle.std.specs.Prelude.{◌≡◌, ℕ, ◌-◌, ◌<◌, List, length, Some, None, Ok, Err, vec_items, Option, Result}
use Rattle.std.specs.declared.alloc.AllocError.{AllocError}
use Rattle.claims.specs.Meaning.{question_of}
use Rattle.notation.specs.declared.numbering.Asked.{Asked}
use Rattle.notation.specs.declared.readers.Reader.{Reader}
use Rattle.notation.specs.Order.{Accepted}
use Rattle.notation.specs.Spelling.{spellings}

-- a question that was asked in this text, and is accepted with its names as the text spells them
pub record Asks (text : List ℕ) (a : Asked) : Type 0 where
  pub in_text : a.text.now ≡ text
  pub accepted : Accepted (question_of a.question) (spellings text (vec_items a.names))

-- each question of the text is one that is accepted
abbrev pub Gives : {E : Type 0} → List ℕ → Result (Option (Result Asked E)) AllocError → Type 0
Gives text (Ok (Some (Ok a))) = Asks text a
Gives text (Ok (Some (Err e))) = Unit {0}
Gives text (Ok None) = Unit {0}
Gives text (Err e) = Unit {0}

-- how much of the text is left
abbrev pub left : Reader → ℕ
left r = length r.cursor.text.now - r.cursor.at

-- unless it is the end, less of the text is left
abbrev pub Advances : {E : Type 0} → Reader → Result (Option (Result Asked E)) AllocError → Reader → Type 0
Advances before (Ok (Some x)) after = left after < left before
Advances before (Ok None) after = Unit {0}
Advances before (Err e) after = Unit {0}
