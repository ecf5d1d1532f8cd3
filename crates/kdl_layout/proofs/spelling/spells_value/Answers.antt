use Rattle.kdl_layout.proofs.Common.{chars, value_tree, whole_view}
use Rattle.kdl_layout.proofs.Respelling.Spellings.{decides_value}
use Rattle.kdl_layout.proofs.spelling.spells_value.Goals as goal

pub returns-in-Some : goal.returns-in-Some
returns-in-Some c =
    let d = rw c.in-Some.is at c.in_ok-whole.ensures in
    decides_value (chars c.args.text.now) (value_tree c.args.value.now) (whole_view c.in-Some.whole) c.is.result d c.is.ensures
