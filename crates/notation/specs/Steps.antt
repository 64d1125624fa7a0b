-- How the words of a text follow one another.
use Rattle.std.specs.Prelude.{◌≡◌, ℕ, ◌<◌, ◌≤◌, List, length, ◌≢◌}
use Rattle.notation.specs.declared.tokens.Kind.TheVariants.{End}
use Rattle.notation.specs.declared.scans.Scan.{Scan}
use Rattle.notation.specs.declared.tokens.Token.{Token}

-- the next word of the text from a place on: it lies within the text, and passes some of it unless it is the end
pub record Step (text : List ℕ) (from : ℕ) (t : Token) : Type 0 where
  pub after : from ≤ t.span.start
  pub ordered : t.span.start ≤ t.span.end
  pub within : t.span.end ≤ length text
  pub advances : (t.kind ≢ End) → from < t.span.end

-- from the first place in a text to the second
pub record Goes (a b : Scan) : Type 0 where
  pub same : b.text.now ≡ a.text.now
  pub on : a.at ≤ b.at

-- and on the way something was passed
pub record Passes (a b : Scan) : Type 0 where
  pub same : b.text.now ≡ a.text.now
  pub past : a.at < b.at
