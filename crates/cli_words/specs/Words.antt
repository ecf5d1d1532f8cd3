-- The words of the program and their flags.
use Rattle.std.specs.List.{flat_map}
use Rattle.std.specs.Option.{option_map_or}
use Rattle.std.specs.Prelude.{◌≡◌, ◌++◌, ◌∷◌, [], List, codes, encode_utf8, map, ℕ}
use Rattle.cli_words.specs.declared.words.Flag.{Flag}
use Rattle.cli_words.specs.declared.words.Word.{Word}

-- the names of a flag, each with a space after it
abbrev pub flag_names : Flag → List ℕ
flag_names f = option_map_or (λ c. codes "-" ++ encode_utf8 c ++ codes " ") f.short [] ++ codes "--" ++ f.long.now ++ codes " "

-- the name of a word and the names of its flags
abbrev pub word_names : Word → List ℕ × List ℕ
word_names w = (w.name.now, flat_map flag_names w.flags.now)

-- these are the words of the program
abbrev pub AreWords : List Word → Type 0
AreWords ws = map word_names ws ≡
    (codes "fmt", codes "--check -w --write --diff --indent --blank-lines --respell --expand --config ")
    ∷ (codes "check", codes "--format --color --all ")
    ∷ (codes "get", codes "--raw --all ")
    ∷ (codes "query", codes "--raw --json --count --paths ")
    ∷ (codes "set", codes "-w --write --create --query --entry ")
    ∷ (codes "remove", codes "-w --write --query --entry ")
    ∷ (codes "insert", codes "-w --write ")
    ∷ (codes "json", [])
    ∷ (codes "from-json", [])
    ∷ (codes "lsp", [])
    ∷ (codes "completions", [])
    ∷ (codes "man", [])
    ∷ []
