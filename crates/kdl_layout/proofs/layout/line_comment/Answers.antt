use Rattle.kdl_layout.proofs.Common.{sym, ap, ◌++◌, ◌∙◌, chars, Text, is_between, line_end}
use Rattle.kdl_layout.proofs.Listing.Starts.{whole_comment}
use Rattle.kdl_layout.proofs.layout.line_comment.Goals as goal

pub returns-in-None : goal.returns-in-None
returns-in-None c =
    let text = chars c.args.text.now in (
      whole_comment text c.new-cursor.result c.looks_two.new.self c.line_comment.new.cursor (c.new.result, c.new-cursor.ensures) c.looks_two.ensures.stayed c.line_comment.ensures.reads (sym c.in-None.ensures.result),
      is_between text (line_end text) (chars c.line.result.0.now) (c.line.ensures.parts ∙ ap (λ (z : Text). chars c.line.result.0.now ++ z) c.line.ensures.end),
    )
