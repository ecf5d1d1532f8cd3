use Rattle.kdl_text.proofs.Looking.MovesJoin.{looked_then}
use Rattle.kdl_text.proofs.strings.has_bare_form.Goals as goal

pub returns-in-Some-eq43-clause-looked : goal.returns-in-Some-eq43-clause-looked
returns-in-Some-eq43-clause-looked c = looked_then 2 _ _ _ c.take_of.ensures.moved c.follows_sign.ensures.looked
