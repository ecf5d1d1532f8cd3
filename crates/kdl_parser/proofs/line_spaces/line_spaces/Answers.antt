use Rattle.std.proofs.Common.{sym, ◌∙◌}
use Rattle.std.specs.Str.{chars}
use Rattle.kdl_parser.proofs.Answering.LineSpaceReads.{lines_go_on, no_line_space, lines_end}
use Rattle.kdl_parser.proofs.line_spaces.line_spaces.Goals as goal

pub returns-then-not-is_line_space : goal.returns-then-not-is_line_space
returns-then-not-is_line_space c =
    no_line_space (chars c.args.text.now) c.tokens.cursor c.next.new.cursor c.in-Some.token c.tokens.invariant (rw c.in-Some.is at c.in_ok-token.ensures.lexed) (sym c.is_line_space.ensures ∙ c.if-not-is_line_space.true)

pub tokens-preserved : goal.tokens-preserved
tokens-preserved c =
    lines_go_on (chars c.args.text.now) c.tokens.cursor c.next.new.cursor c.in-Some.token c.tokens.invariant (rw c.in-Some.is at c.in_ok-token.ensures.lexed) (sym c.is_line_space.ensures ∙ c.if-not-is_line_space.false)

pub returns : goal.returns
returns c = lines_end (chars c.args.text.now) c.tokens.cursor c.next.new.cursor c.tokens.invariant (rw c.in_default.is at c.in_ok-token.ensures.lexed)
