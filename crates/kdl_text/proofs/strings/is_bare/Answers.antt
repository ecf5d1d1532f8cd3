use Rattle.std.proofs.Common.{ap}
use Rattle.kdl_text.proofs.Numeric.DecimalReads.{at_end}
use Rattle.kdl_text.proofs.Quoted.BareReads.{bare_none, bare_whole}
use Rattle.kdl_text.proofs.strings.is_bare.Goals as goal

pub returns-in-Some : goal.returns-in-Some
returns-in-Some c = bare_whole _ _ _ _ _ (ap (λ h. h.rest) c.new-cursor.ensures) c.in-Some.ensures.found c.in-Some.ensures.only (at_end _ _ _ c.look.ensures.result c.is_none.ensures)

pub returns-in-None : goal.returns-in-None
returns-in-None c = bare_none _ _ (ap (λ h. h.rest) c.new-cursor.ensures) c.in-None.ensures.only
