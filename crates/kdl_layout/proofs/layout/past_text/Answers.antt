use Rattle.kdl_layout.proofs.Common.{IfOk-weaker, chars, Passes}
use Rattle.kdl_layout.proofs.Spacing.Reads.{passes_read}
use Rattle.kdl_layout.proofs.layout.past_text.Goals as goal

pub returns-in_default : goal.returns-in_default
returns-in_default c = Passes.no_gap (rw c.in_default.is at c.in_ok-items.ensures)

pub returns : goal.returns
returns c =
    IfOk-weaker c.past_items.result _ _
    (λ b e. passes_read c.args.layout.now.config.no_comments c.args.before b (chars c.args.place.now) c.deref.result.now c.in-Some.items.items (rw c.in-Some.is at c.in_ok-items.ensures) c.deref.ensures.value e) c.past_items.ensures
