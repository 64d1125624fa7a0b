-- How the words of a text follow one another.
use Rattle.std.specs.Prelude.{◌<◌, ◌≢◌}
use Rattle.notation.specs.declared.scans.Scan.{Scan}
use Rattle.notation.specs.declared.tokens.Kind.TheVariants.{End}
use Rattle.memory_notation.specs.declared.items.Item.{Item}
use Rattle.memory_notation.specs.declared.items.Sort.TheVariants.{Shared}

-- unless it is the end, some of the text is passed
abbrev pub Advances : Scan → Item → Scan → Type 0
Advances before item after = (item.sort ≢ Shared End) → before.at < after.at
