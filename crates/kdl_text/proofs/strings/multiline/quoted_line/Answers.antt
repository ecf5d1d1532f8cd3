use Rattle.std.specs.Str.{chars}
use Rattle.kdl_text.specs.Raw.{literals}
use Rattle.kdl_text.proofs.Looking.SliceCost.{past_then}
use Rattle.kdl_text.proofs.ManyLines.EscapedLineLoop.{escaped_joins, escaped_only}
use Rattle.kdl_text.proofs.strings.multiline.quoted_line.Goals as goal

pub returns-in-Some : goal.returns-in-Some
returns-in-Some c =
    let part = c.in_ok-text.ensures in
    record {
      found = record { units = literals (chars c.in_ok-text.text.now); is = c.plain_line.ensures; reads = rw c.in-Some.is at part.found.reads; paid = part.found.paid };
      only = λ r us x. tt;
      past = part.past;
    }

pub returns-in-None : goal.returns-in-None
returns-in-None c =
    let part = c.in_ok-text.ensures in
    let rest = c.line_escapes.ensures in
    record {
      found = escaped_joins c.line_escapes.result _ _ _ (chars c.in_ok-text.text.now) (rw c.in-None.is at part.found.reads) c.plain_part.ensures.past.moves part.found.paid c.line_escapes.ensures.past.moves rest.found rest.paid;
      only = escaped_only c.line_escapes.result _ _ (chars c.in_ok-text.text.now) (rw c.in-None.is at part.found.reads) rest.only;
      past = past_then (record { moves = c.plain_part.ensures.past.moves; costs = part.found.paid.costs }) rest.past;
    }
