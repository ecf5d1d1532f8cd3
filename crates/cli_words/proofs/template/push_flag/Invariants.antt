use Rattle.std.proofs.Common.{◌≡◌, ◌++◌, flat_map, string_bytes, take}
use Rattle.cli_words.specs.Template.{flag_part}
use Rattle.cli_words.proofs.template.push_flag.Given as goal

abbrev pub invariant-loop-part : goal.invariant-loop-part
invariant-loop-part l = string_bytes l.out ≡ string_bytes l.initial.out ++ flat_map (flag_part l.escapes l.word l.flag) (take l.part-index l.parts)
