use Rattle.std.proofs.Common.{Some, sym, ap, ◌∙◌}
use Rattle.kdl_text.specs.Internal.Here.{tail}
use Rattle.kdl_text.proofs.Looking.MovesJoin.{moves_then, moves_one, moves_stayed, stayed_looked, took_from}
use Rattle.kdl_query.proofs.Spacing.{slash_is, slash_not, space_here, other_char}
use Rattle.kdl_query.proofs.parse.names.passes_ws.Goals as goal

pub returns-in-Block-clause-reads : goal.returns-in-Block-clause-reads
returns-in-Block-clause-reads c = slash_is _ _ _ _ c.look.ensures.moved c.in-Block.is c.slash.ensures.reads

pub returns-in-Line : goal.returns-in-Line
returns-in-Line c = record {
  reads = slash_not _ _ _ _ (sym c.look.ensures.result ∙ c.in-Some-eq47.is ∙ ap Some c.in-Some-eq47.field-0-test) c.look.ensures.moved c.in-Line.is c.slash.ensures.reads;
  moves = moves_then (moves_stayed (stayed_looked _ _ c.look.ensures.moved)) c.slash.ensures.moves;
}

pub returns-in-Some-clause-reads : goal.returns-in-Some-clause-reads
returns-in-Some-clause-reads c = space_here _ _ _ (sym c.look.ensures.result ∙ c.in-Some.is) (sym c.is_space.ensures ∙ c.if-is_space.true) (ap (λ z. z.rest) c.step.ensures ∙ ap (λ z. tail z.rest) c.look.ensures.moved)

pub returns-in-Some-clause-moves : goal.returns-in-Some-clause-moves
returns-in-Some-clause-moves c = moves_one (took_from _ _ _ _ (sym c.in-Some.is ∙ c.look.ensures.result) c.look.ensures.moved c.step.ensures)

pub returns-in_default : goal.returns-in_default
returns-in_default c = record {
  reads = other_char _ c.look.new.self.rest _ (sym c.look.ensures.result ∙ c.in-Some.is) c.in-Some.c-test.1 (sym c.is_space.ensures ∙ c.if-is_space.false);
  moves = moves_stayed (stayed_looked _ _ c.look.ensures.moved);
}
