use Rattle.std.proofs.Common.{◌≡◌, ◌++◌, flat_map, string_bytes, take}
use Rattle.cli_words.specs.Template.{flag_parts}
use Rattle.cli_words.proofs.template.push_flags.Given as goal

abbrev pub invariant-loop-flag : goal.invariant-loop-flag
invariant-loop-flag l = string_bytes l.out ≡ string_bytes l.initial.out ++ flat_map (flag_parts l.escapes l.parts l.word) (take l.flag-index l.word.flags.now)
