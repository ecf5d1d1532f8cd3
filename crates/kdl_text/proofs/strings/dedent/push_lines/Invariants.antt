use Rattle.std.proofs.Common.{take, string_bytes}
use Rattle.std.specs.Str.{chars}
use Rattle.kdl_text.specs.Raw.{literals}
use Rattle.kdl_text.proofs.ManyLines.DedentReads.{Written}
use Rattle.kdl_text.proofs.strings.dedent.push_lines.Given as goal

abbrev pub invariant-loop-line : goal.invariant-loop-line
invariant-loop-line l = Written (literals (chars l.prefix)) (take l.line-index l.fn.lines) (chars (string_bytes l.out))
