use Rattle.std.specs.Prelude.{◌≡◌, ◌≢◌, ℕ, Result, MatchResult}
use Rattle.anyhow.specs.declared.error.Error.{Error}
use Rattle.naive.specs.declared.parts.PureKind.{PureKind}
use Rattle.naive.specs.declared.parts.PureKind.TheVariants.{Same, Other}
use Rattle.naive.specs.declared.parts.AtomKind.{AtomKind}
use Rattle.naive.specs.declared.parts.AtomKind.TheVariants.{Cell, Row}

-- the word that stands for same or other
abbrev pub pure_code : PureKind → ℕ
pure_code Same = 0
pure_code Other = 1

-- the word that stands for a cell or a row
abbrev pub atom_code : AtomKind → ℕ
atom_code Cell = 2
atom_code Row = 3

-- the kind with this word, or an error at a word that no kind has
abbrev pub Decodes : {K : Type 0} → (K → ℕ) → ℕ → Result K Error → Type 0
Decodes code word r = MatchResult r (λ kind. code kind ≡ word) (λ _. (kind : _) → code kind ≢ word)
