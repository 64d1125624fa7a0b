-- What a program is asked for by the words of its command line.
use Rattle.std.specs.Prelude.{◌≡◌, ℕ, Bool, true, false, not, ◌&&◌, List, [], ◌∷◌, map, codes, Option, Some, None, find, option_map, vec_items, string_bytes, nat_eq}
use Rattle.std.specs.List.{list_any, starts_with}
use Rattle.std.specs.Str.{bytes_eq}
use Rattle.std.specs.declared.string.String.{String}
use Rattle.std.specs.declared.alloc.Global.{Global}
use Rattle.console.specs.declared.commands.Command.{Command}
use Rattle.console.specs.declared.commands.Command.TheVariants.{Unknown, Help, Version, Files}

abbrev pub is_help : List ℕ → Bool
is_help word = bytes_eq word (codes "--help")

abbrev pub is_version : List ℕ → Bool
is_version word = bytes_eq word (codes "--version")

-- it begins with `-`, and is no option of a program and not `-` alone
abbrev pub is_unknown : List ℕ → Bool
is_unknown word = starts_with nat_eq word (codes "-") && not (bytes_eq word (codes "-")) && not (is_help word) && not (is_version word)

abbrev pub first_unknown : List (String Global) → Option (String Global)
first_unknown words = find (λ word. is_unknown (string_bytes word)) words

abbrev pub some_help : List (String Global) → Bool
some_help words = list_any (λ word. is_help (string_bytes word)) words

abbrev pub some_version : List (String Global) → Bool
some_version words = list_any (λ word. is_version (string_bytes word)) words

-- unless there are none: then it is `-` alone
abbrev pub Are : List (String Global) → List (String Global) → Type 0
Are [] files = map string_bytes files ≡ codes "-" ∷ []
Are (word ∷ words) files = files ≡ word ∷ words

-- the first unknown option; or help, where there is none; or the version, where there is no help either; or the files
abbrev pub Asks : List (String Global) → Command → Type 0
Asks words (Unknown option) = option_map string_bytes (first_unknown words) ≡ Some (string_bytes option)
Asks words Help = (first_unknown words ≡ None) × (some_help words ≡ true)
Asks words Version = (first_unknown words ≡ None) × (some_help words ≡ false) × (some_version words ≡ true)
Asks words (Files files) =
    (first_unknown words ≡ None) × (some_help words ≡ false) × (some_version words ≡ false) × Are words (vec_items files)
