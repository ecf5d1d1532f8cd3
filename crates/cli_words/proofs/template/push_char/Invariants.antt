use Rattle.std.proofs.Common.{◌≡◌, drop, string_bytes}
use Rattle.cli_words.specs.Template.{escaped_char}
use Rattle.cli_words.proofs.template.push_char.Given as goal

abbrev pub invariant-loop-escaped : goal.invariant-loop-escaped
invariant-loop-escaped l = (string_bytes l.out ≡ string_bytes l.initial.out) × (escaped_char l.escapes l.c ≡ escaped_char (drop l.escaped-index l.escapes) l.c)
