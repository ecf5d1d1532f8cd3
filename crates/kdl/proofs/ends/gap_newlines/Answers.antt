use Rattle.kdl.proofs.Common.{subst, sym, chars, without_bom, GapFewest, GapSays, IsLacking}
use Rattle.kdl.proofs.Putting.Fewest.{gap_read}
use Rattle.kdl.proofs.ends.gap_newlines.Goals as goal

pub returns : goal.returns
returns c =
    let t = without_bom (chars c.args.text.now) in
    subst (IsLacking 2 (GapSays t) (GapFewest t)) (sym c.unwrap_or.ensures) (gap_read t (chars c.without_bom.result.now) c.in_ok-lacks.lacks c.without_bom.ensures c.in_ok-lacks.ensures)
