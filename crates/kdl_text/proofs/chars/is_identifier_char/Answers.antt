use Rattle.std.proofs.Common.{sym, ◌∙◌, ltb-true}
use Rattle.kdl_text.specs.Chars.{is_identifier_char}
use Rattle.kdl_text.specs.declared.chars.TheConstants.{IDENTIFIERS}
use Rattle.kdl_text.proofs.Looking.ClassTables.{table_of_identifier, table_tells}
use Rattle.kdl_text.proofs.chars.is_identifier_char.Goals as goal

pub returns-then-is_ascii : goal.returns-then-is_ascii
returns-then-is_ascii c = c.is_inside.ensures ∙ table_tells is_identifier_char IDENTIFIERS c.args.c table_of_identifier (ltb-true c.args.c 128 (sym c.is_ascii.ensures ∙ c.if-is_ascii.true))
