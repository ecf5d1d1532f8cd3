use Rattle.kdl_layout.proofs.Common.{IfOk-weaker, chars, held}
use Rattle.kdl_layout.proofs.Lacking.Terminators.{semicolon_gap, line_gap, return_alone, open_alone, end_alone, no_terminator}
use Rattle.kdl_layout.proofs.Listing.Starts.{break_of, no_break, begun}
use Rattle.kdl_layout.proofs.lacks.terminator_lacks.Goals as goal

pub returns-in-Some : goal.returns-in-Some
returns-in-Some c = IfOk-weaker c.read_gap.result _ _ (λ o. semicolon_gap (chars c.args.text.now) (chars c.in-Some.gap.now) o _ (held c.read_gap.new.items) c.in-Some.ensures) c.read_gap.ensures

pub break_ending-requires : goal.break_ending-requires
break_ending-requires c = break_of (chars c.args.text.now) c.in-Break.field-0 c.in-Break.rest (rw c.in-Break.is at c.in_ok-rest.ensures)

pub returns-in-Before : goal.returns-in-Before
returns-in-Before c =
    let b = break_of (chars c.args.text.now) c.in-Break.field-0 c.in-Break.rest (rw c.in-Break.is at c.in_ok-rest.ensures) in
    IfOk-weaker c.read_gap-in-Before.result _ _ (λ o. line_gap c.in-Before.gap o _ (held c.read_gap-in-Before.new.items) b (rw c.in-Before.is at c.break_ending.ensures)) c.read_gap-in-Before.ensures

pub returns-in-InReturn : goal.returns-in-InReturn
returns-in-InReturn c = return_alone (break_of (chars c.args.text.now) c.in-Break.field-0 c.in-Break.rest (rw c.in-Break.is at c.in_ok-rest.ensures)) (rw c.in-InReturn.is at c.break_ending.ensures)

pub returns-in-Break : goal.returns-in-Break
returns-in-Break c = open_alone (break_of (chars c.args.text.now) c.in-Break.field-0 c.in-Break.rest (rw c.in-Break.is at c.in_ok-rest.ensures)) (rw c.in-Open.is at c.break_ending.ensures)

pub returns-in-End : goal.returns-in-End
returns-in-End c = end_alone (chars c.args.text.now) (rw c.in-End.is at c.in_ok-rest.ensures)

pub returns : goal.returns
returns c =
    let text = chars c.args.text.now in
    no_terminator text c.in_default.ensures (no_break text _ c.in_ok-rest.ensures c.in_default-2.not-Break) (begun text _ c.in_ok-rest.ensures c.in_default-2.not-End)
