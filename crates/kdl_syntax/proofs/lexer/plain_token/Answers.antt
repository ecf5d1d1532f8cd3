use Rattle.std.proofs.Common.{sym, ◌∙◌}
use Rattle.kdl_syntax.proofs.Lexing.TokenReads.{other_here}
use Rattle.kdl_syntax.proofs.lexer.plain_token.Goals as goal

pub returns-clause-read : goal.returns-clause-read
returns-clause-read c = other_here c.args.c _ c.args.cursor.now.rest c.requires.first c.requires.plain c.requires.other.no_slash (sym c.is_identifier_char.ensures ∙ c.if-is_identifier_char.false) c.requires.other.no_space (sym c.is_newline_char.ensures ∙ c.if-is_newline_char.false) c.requires.other.no_single
