use Rattle.std.proofs.Common.{◌≡◌, ◌++◌, flat_map, string_bytes, take}
use Rattle.cli_words.specs.Template.{operand_usage}
use Rattle.cli_words.proofs.template.push_usage.Given as goal

abbrev pub invariant-loop-operand : goal.invariant-loop-operand
invariant-loop-operand l = string_bytes l.out ≡ string_bytes l.initial.out ++ flat_map operand_usage (take l.operand-index l.operands)
