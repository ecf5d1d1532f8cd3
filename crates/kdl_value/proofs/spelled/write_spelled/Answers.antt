use Rattle.std.proofs.Common.{sym, ◌∙◌, rules}
use Rattle.std.proofs.Output.{has_written_append, has_written_of_eq}
use Rattle.kdl_value.proofs.Spelling.SpellingBytes.{bare_bytes, quoted_bytes}
use Rattle.kdl_value.proofs.spelled.write_spelled.Goals as goal

pub returns-then-prints_bare : goal.returns-then-prints_bare
returns-then-prints_bare g c plain ok =
    has_written_of_eq _ _ _ _ _ (bare_bytes c.args.s.now c.utf8.s (sym c.prints_bare.ensures ∙ c.if-prints_bare.true)) (c.write_str.ensures.writes plain ok)

pub returns-in_ok-write_escaped : goal.returns-in_ok-write_escaped
returns-in_ok-write_escaped g c plain ok =
    let one = c.write_str-else-prints_bare.ensures.writes plain (search rules) in
    let two = c.write_escaped.ensures one.plain (search rules) in
    let three = c.write_str-else-prints_bare-2.ensures.writes two.plain ok in
    has_written_of_eq _ _ _ _ _ (quoted_bytes c.args.s.now (sym c.prints_bare.ensures ∙ c.if-prints_bare.false)) (has_written_append _ _ _ _ _ _ (has_written_append _ _ _ _ _ _ one two) three)
