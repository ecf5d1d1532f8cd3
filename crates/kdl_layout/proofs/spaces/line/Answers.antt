use Rattle.kdl_layout.proofs.Common.{◌∙◌, chars}
use Rattle.kdl_text.proofs.Spacing.SpaceReads.{moves_ran}
use Rattle.kdl_layout.proofs.Listing.Starts.{skips_line, parts_at}
use Rattle.kdl_layout.proofs.spaces.line.Goals as goal

pub returns-clause-end : goal.returns-clause-end
returns-clause-end c =
    let m = moves_ran c.skip.ensures.1 in
    let p = parts_at (chars c.args.text.now) (chars c.cut.result.0.now) (chars c.cut.result.1.now) c.at.result c.new-cursor.result c.skip.new.self (c.new.result, c.new-cursor.ensures) m c.at.ensures c.cut.ensures.parts in
    p.0 ∙ skips_line (chars c.args.text.now) c.new-cursor.result c.skip.new.self (c.new.result, c.new-cursor.ensures) c.skip.ensures
