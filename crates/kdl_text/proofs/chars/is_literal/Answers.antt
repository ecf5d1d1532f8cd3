use Rattle.std.proofs.Common.{sym, ◌∙◌, ltb-true}
use Rattle.kdl_text.specs.Chars.{is_literal}
use Rattle.kdl_text.specs.declared.chars.TheConstants.{LITERALS}
use Rattle.kdl_text.proofs.Looking.ClassTables.{table_of_literal, table_tells}
use Rattle.kdl_text.proofs.chars.is_literal.Goals as goal

pub returns-then-is_ascii : goal.returns-then-is_ascii
returns-then-is_ascii c = c.is_inside.ensures ∙ table_tells is_literal LITERALS c.args.c table_of_literal (ltb-true c.args.c 128 (sym c.is_ascii.ensures ∙ c.if-is_ascii.true))
