use Rattle.kdl_syntax.proofs.Lexing.TokenReads.{no_escline_here}
use Rattle.kdl_syntax.proofs.lexer.escline_token.Goals as goal

pub returns-else-escline-clause-read : goal.returns-else-escline-clause-read
returns-else-escline-clause-read c = no_escline_here _ c.escline.new.cursor.rest c.escline.new.cursor.rest c.requires c.if-escline.ensures.reads
