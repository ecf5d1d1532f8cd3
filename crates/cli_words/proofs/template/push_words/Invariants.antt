use Rattle.std.proofs.Common.{◌≡◌, ◌++◌, flat_map, string_bytes, take}
use Rattle.cli_words.specs.Template.{word_parts}
use Rattle.cli_words.proofs.template.push_words.Given as goal

abbrev pub invariant-loop-word : goal.invariant-loop-word
invariant-loop-word l = string_bytes l.out ≡ string_bytes l.initial.out ++ flat_map (word_parts l.escapes l.parts) (take l.word-index l.words)
