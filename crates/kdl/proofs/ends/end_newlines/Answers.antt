use Rattle.kdl.proofs.Common.{◌≡◌, ◌++◌, ap, subst, sym, ◌∙◌, chars, Text, EndFewest, EndSays, IsLacking}
use Rattle.kdl.proofs.Putting.Fewest.{end_read}
use Rattle.kdl.proofs.Putting.NodeEnds.{empty_string}
use Rattle.kdl.proofs.ends.end_newlines.Goals as goal

pub returns : goal.returns
returns c =
    let t = chars c.args.terminator.now ++ chars c.args.trailing.now in
    let u = chars c.deref.result.now in
    let same : u ≡ t = ap chars c.deref.ensures ∙ c.in_ok-push_text-2.ensures
    ∙ ap (λ (t : Text). t ++ chars c.args.trailing.now) (c.in_ok-push_text.ensures ∙ ap (λ (t : Text). t ++ chars c.args.terminator.now) (empty_string c.new-end.result c.new-end.ensures.bytes)) in
    subst (IsLacking 2 (EndSays t) (EndFewest t)) (sym c.unwrap_or.ensures) (end_read t u c.in_ok-lacks.lacks same c.in_ok-lacks.ensures)
