-- Texts on the words of the program, by templates.
use Rattle.std.specs.Borrow.{Bor}
use Rattle.std.specs.List.{flat_map, list_all}
use Rattle.std.specs.Option.{option_map_or}
use Rattle.std.specs.Prelude.{◌≡◌, ◌++◌, ◌∷◌, ◌==◌, ◌⊎◌, [], Contains, List, chars, codes, encode_utf8, if◌then◌else◌, length, map, nat_lt, true, ℕ}
use Rattle.cli_words.specs.Words.{AreWords}
use Rattle.cli_words.specs.declared.completions.Shell.{Shell}
use Rattle.cli_words.specs.declared.completions.Shell.TheVariants.{Bash, Fish, Zsh}
use Rattle.cli_words.specs.declared.template.Between.{Between}
use Rattle.cli_words.specs.declared.template.Completion.{Completion}
use Rattle.cli_words.specs.declared.template.FlagPart.{FlagPart}
use Rattle.cli_words.specs.declared.template.FlagPart.TheVariants as flag
use Rattle.cli_words.specs.declared.template.Template.{Template}
use Rattle.cli_words.specs.declared.template.WordPart.{WordPart}
use Rattle.cli_words.specs.declared.template.WordPart.TheVariants as word
use Rattle.cli_words.specs.declared.words.Count.{Count}
use Rattle.cli_words.specs.declared.words.Count.TheVariants.{AnyNumber, AtMostOnce, Once}
use Rattle.cli_words.specs.declared.words.Flag.{Flag}
use Rattle.cli_words.specs.declared.words.Operand.{Operand}
use Rattle.cli_words.specs.declared.words.Values.{Values}
use Rattle.cli_words.specs.declared.words.Values.TheVariants.{Files, OneOf}
use Rattle.cli_words.specs.declared.words.Word.{Word}

-- the escape of a character, or itself if it has none
abbrev pub escaped_char : (escapes : List (ℕ × Bor (List ℕ))) → ℕ → List ℕ
escaped_char [] c = encode_utf8 c
escaped_char ((d, escape) ∷ es) c = if c == d then escape.now else escaped_char es c

-- only characters before `a` have escapes
abbrev pub LeavesLetters : (escapes : List (ℕ × Bor (List ℕ))) → Type 0
LeavesLetters es = list_all (λ e. nat_lt e.0 97) es ≡ true

-- a text with its characters escaped
abbrev pub escaped : (escapes : List (ℕ × Bor (List ℕ))) → List ℕ → List ℕ
escaped es text = flat_map (escaped_char es) (chars text)

-- what completes a value of that kind
abbrev pub completion : Completion → Values → List ℕ
completion by Files = by.files.now
completion by (OneOf vs) = by.before.now ++ flat_map (λ v. v.now ++ codes " ") vs.now ++ by.after.now
completion by _ = by.text.now

-- a part for a flag of a word
abbrev pub flag_part : (escapes : List (ℕ × Bor (List ℕ))) → Word → Flag → FlagPart → List ℕ
flag_part es w f (flag.Text t) = t.now
flag_part es w f flag.Word = escaped es w.name.now
flag_part es w f flag.Long = escaped es f.long.now
flag_part es w f (flag.Short before after) = option_map_or (λ c. before.now ++ encode_utf8 c ++ after.now) f.short []
flag_part es w f flag.Help = escaped es f.help.now
flag_part es w f (flag.ShortHelp after) = option_map_or (λ c. escaped es f.help.now ++ after.now) f.short []
flag_part es w f (flag.Value before after) = option_map_or (λ v. before.now ++ v.0.now ++ after.now) f.value []
flag_part es w f (flag.Values by) = option_map_or (λ v. completion by v.1) f.value []

-- the parts for a flag of a word
unfoldable pub flag_parts : (escapes : List (ℕ × Bor (List ℕ))) → List FlagPart → Word → Flag → List ℕ
flag_parts es parts w f = flat_map (flag_part es w f) parts

-- a name that may be given so often, as on a command line
abbrev pub counted : Count → (name : List ℕ) → List ℕ
counted Once name = name ++ codes " "
counted AtMostOnce name = codes "[" ++ name ++ codes "] "
counted AnyNumber name = codes "[" ++ name ++ codes "]... "

-- an operand as on a command line
abbrev pub operand_usage : Operand → List ℕ
operand_usage o = counted o.count o.name.now

-- the details of an operand, or its help if there are none
abbrev pub explanation : Operand → List ℕ
explanation o = if length o.details.now == 0 then o.help.now else o.details.now

-- the name of an operand and what it is, between these
abbrev pub operand_part : (escapes : List (ℕ × Bor (List ℕ))) → Between → Operand → List ℕ
operand_part es by o = by.before.now ++ o.name.now ++ by.between.now ++ escaped es (explanation o) ++ by.after.now

-- a part for a word
abbrev pub word_part : (escapes : List (ℕ × Bor (List ℕ))) → Word → WordPart → List ℕ
word_part es w (word.Text t) = t.now
word_part es w word.Name = escaped es w.name.now
word_part es w word.About = escaped es w.about.now
word_part es w (word.Flags parts) = flat_map (flag_parts es parts.now w) w.flags.now
word_part es w (word.IfFlags t) = if length w.flags.now == 0 then [] else t.now
word_part es w word.Usage = flat_map operand_usage w.operands.now
word_part es w (word.Operands by) = flat_map (operand_part es by) w.operands.now
word_part es w word.Examples = escaped es w.examples.now

-- the parts for a word
unfoldable pub word_parts : (escapes : List (ℕ × Bor (List ℕ))) → List WordPart → Word → List ℕ
word_parts es parts w = flat_map (word_part es w) parts

-- the text by a template on the words
unfoldable pub written : Template → List Word → List ℕ
written t ws = t.title.now ++ flat_map (λ h. h.now) t.head.now ++ flat_map (word_parts t.escapes.now t.list.now) ws ++ t.middle.now
    ++ flat_map (word_parts t.escapes.now t.section.now) ws ++ t.end.now

-- a part is written for each flag of each word
abbrev pub HasForFlags : Template → FlagPart → Type 0
HasForFlags t part = (parts : Bor (List FlagPart)) × Contains t.section.now (word.Flags parts) × Contains parts.now part

-- the template lists the name of each word, and has a section of each word with its name, the names of its flags, and what completes their values or the names of the values
abbrev pub HasNames : Template → Type 0
HasNames t = Contains t.list.now word.Name × Contains t.section.now word.Name × HasForFlags t flag.Long × ((before after : Bor (List ℕ)) × HasForFlags t (flag.Short before after))
    × (((by : Completion) × HasForFlags t (flag.Values by)) ⊎ ((before after : Bor (List ℕ)) × HasForFlags t (flag.Value before after)))

-- the template is of texts that begin so, and escapes no small letter
abbrev pub IsTemplate : (title : List ℕ) → Template → Type 0
IsTemplate title t = (t.title.now ≡ title) × LeavesLetters t.escapes.now × HasNames t

-- the text begins so, and is by a template on the words of the program
abbrev pub IsOnWords : (title : List ℕ) → List ℕ → Type 0
IsOnWords title text = (t : Template) × (ws : List Word) × IsTemplate title t × AreWords ws × (text ≡ written t ws)

-- the first line of the script for a shell
abbrev pub title : Shell → List ℕ
title Bash = codes "# Completions of kdl for bash.\n"
title Fish = codes "# Completions of kdl for fish.\n"
title Zsh = codes "#compdef kdl\n"

-- the text is the script for a shell
abbrev pub IsScript : Shell → List ℕ → Type 0
IsScript shell text = IsOnWords (title shell) text

-- the text is the manual page
abbrev pub IsManual : List ℕ → Type 0
IsManual text = IsOnWords (codes ".TH KDL 1 ") text

-- these are in the text, one after the other
abbrev pub InOrder : List (List ℕ) → List ℕ → Type 0
InOrder [] text = Unit {0}
InOrder (p ∷ ps) text = (before after : List ℕ) × (text ≡ before ++ p ++ after) × InOrder ps after

-- the text has these of each word of the program, in order; only characters before `a` may be escaped
abbrev pub HasOfEach : (Word → List (List ℕ)) → List ℕ → Type 0
HasOfEach of text = (escapes : List (ℕ × Bor (List ℕ))) × (ws : List Word) × LeavesLetters escapes × AreWords ws
    × InOrder (flat_map (λ w. map (escaped escapes) (of w)) ws) text
