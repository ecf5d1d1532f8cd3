use Rattle.std.proofs.Common.{◌∙◌}
use Rattle.kdl_entry.proofs.Reading.EntryLoop.{next_going, nearer, no_end, recounted}
use Rattle.kdl_entry.proofs.parsing.entries.read_tokens.Goals as goal

pub tokens-preserved : goal.tokens-preserved
tokens-preserved c =
    let text = c.next.ensures.moves.same ∙ c.tokens.invariant.1 in (
      recounted _ c.next.new.cursor c.take.new.cursor _ c.take.ensures.same
          (next_going _ _ c.tokens.cursor c.next.new.cursor c.next.new.cursor.text _ c.in-Some.token text c.tokens.invariant.0 (rw c.in-Some.is at c.in_ok-token.ensures.lexed) c.next.ensures.moves c.in_ok-state.ensures.did),
      c.take.ensures.same.text ∙ text,
    )

pub tokens-smaller : goal.tokens-smaller
tokens-smaller c = rw c.take.ensures.same.rest (nearer c.tokens.cursor c.next.new.cursor c.in-Some.token (rw c.in-Some.is at c.in_ok-token.ensures.lexed))

pub returns-in-None : goal.returns-in-None
returns-in-None c =
    no_end _ c.tokens.cursor c.next.new.cursor.text _ (c.next.ensures.moves.same ∙ c.tokens.invariant.1) c.tokens.invariant.0 (rw c.in_default.is at c.in_ok-token.ensures.lexed) (rw c.in-None.is at c.in_ok-entry.ensures)
