-- What the call for C and Rust promises: just what `decide` does, with its answer as numbers.
use Rattle.std.specs.Prelude.{◌≡◌, ℕ, List}
use Rattle.entails.specs.Deciding.{DecidedPost}
use Rattle.entails.specs.declared.deciding.Decided.{Decided}
use Rattle.entails.specs.declared.deciding.Decided.TheVariants.{Follows, Fails, OutFull, NoClaims, Few}
use Rattle.entails.specs.declared.exports.Answer.{Answer}

abbrev pub as_numbers : Decided → Answer
as_numbers Follows = record { kind = 0; cells = 0 }
as_numbers (Fails k) = record { kind = 1; cells = k }
as_numbers OutFull = record { kind = 2; cells = 0 }
as_numbers NoClaims = record { kind = 3; cells = 0 }
as_numbers Few = record { kind = 4; cells = 0 }

pub record Exported (s : List ℕ) (w : ℕ) (o p : List ℕ) (r : Answer) : Type 0 where
  pub decided : Decided
  pub promise : DecidedPost s w o p decided
  pub numbers : r ≡ as_numbers decided
