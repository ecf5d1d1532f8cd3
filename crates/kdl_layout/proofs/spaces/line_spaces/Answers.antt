use Rattle.kdl_layout.proofs.Common.{IfOk-weaker, chars, held}
use Rattle.kdl_layout.proofs.Lacking.SpaceEnds.{as_lines, break_adds}
use Rattle.kdl_layout.proofs.Listing.Starts.{break_of, no_break}
use Rattle.kdl_layout.proofs.spaces.line_spaces.Goals as goal

pub break_ending-requires : goal.break_ending-requires
break_ending-requires c = break_of (chars c.args.text.now) c.in-Break.item c.in-Break.rest (rw c.in-Break.is at c.requires)

pub returns-in-Break : goal.returns-in-Break
returns-in-Break c =
    break_adds (chars c.args.text.now) c.in-Break.item c.in-Break.rest c.break_ending.result (held c.args.items.now) (held c.add.new.items) (rw c.in-Break.is at c.requires) c.in_ok-add.ensures c.break_ending.ensures

pub returns : goal.returns
returns c =
    let text = chars c.args.text.now in
    IfOk-weaker c.node_spaces.result _ _ (λ o a. as_lines text o (held c.args.items.now) (held c.node_spaces.new.items) (no_break text c.args.first c.requires c.in_default.not-Break) (a text c.requires)) c.node_spaces.ensures
