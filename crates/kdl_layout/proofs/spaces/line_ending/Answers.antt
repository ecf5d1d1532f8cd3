use Rattle.kdl_layout.proofs.Common.{sym, ◌∙◌}
use Rattle.kdl_layout.proofs.Lacking.SpaceEnds.{break_before}
use Rattle.kdl_layout.proofs.Listing.Starts.{no_chars, some_chars}
use Rattle.kdl_layout.proofs.spaces.line_ending.Goals as goal

pub returns-then-is_empty : goal.returns-then-is_empty
returns-then-is_empty c = no_chars c.args.end.now (sym c.is_empty.ensures ∙ c.if-is_empty.true)

pub returns-else-is_return : goal.returns-else-is_return
returns-else-is_return c = let (s, b, e) = c.requires in rw e (break_before b e (some_chars c.args.end.now c.utf8.end (sym c.is_empty.ensures ∙ c.if-is_empty.false)) c.if-is_return.ensures)
