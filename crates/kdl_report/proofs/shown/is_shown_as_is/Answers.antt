use Rattle.std.proofs.Common.{◌≡◌, sym, ◌∙◌}
use Rattle.std.specs.Str.{chars}
use Rattle.std.proofs.lemmas.Iterator.{YieldsList-from_chars}
use Rattle.std.proofs.lemmas.Iterator.Consumers.{YieldsList-end}
use Rattle.std.proofs.lemmas.List.{map-id}
use Rattle.kdl_report.proofs.Appended.{as_is}
use Rattle.kdl_report.proofs.shown.is_shown_as_is.Goals as goal

pub returns : goal.returns
returns c =
    let all : c.loop-c.yielded ≡ chars c.args.text.now = sym (map-id _) ∙ (YieldsList-end (YieldsList-from_chars c.args.text.now c.utf8.text cc) c.loop-c.yielded _ c.loop-c.yielded_by _ _ c.in-None.is c.next.ensures.steps).0 in
    λ yes. as_is c.args.text.now c.loop-c.yielded c.utf8.text all c.loop-c.invariant
