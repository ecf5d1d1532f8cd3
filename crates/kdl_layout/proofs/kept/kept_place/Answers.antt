use Rattle.kdl_layout.proofs.Common.{sym, ◌∙◌, ◌++◌, ap, chars, line_text, Text}
use Rattle.kdl_layout.proofs.kept.kept_place.Goals as goal
use Rattle.kdl_layout.proofs.Respelling.Kept.{place_copied, place_of_spaces, place_refused}

pub returns-then-not-is_kept : goal.returns-then-not-is_kept
returns-then-not-is_kept c = rw c.if-not-is_kept.true c.no_text.ensures

pub returns-then-is_kdl_space : goal.returns-then-is_kdl_space
returns-then-is_kdl_space c = rw c.if-not-is_kept.false (place_of_spaces (chars c.args.text.now) _ (sym c.is_kdl_space.ensures ∙ c.if-is_kdl_space.true) c.no_text-then-is_kdl_space.ensures)

pub returns-then-branch : goal.returns-then-branch
returns-then-branch c =
    let lined = c.in_ok-push_line_text.ensures ∙ ap (λ (t : Text). t ++ line_text (chars c.args.text.now)) c.no_text-kept.ensures in
    rw c.if-not-is_kept.false (place_copied (chars c.args.text.now) _ lined (sym c.is_kdl_space.ensures ∙ c.if-is_kdl_space.false) (rw c.as_str.ensures.value at (c.in_ok-is_node_spaces.ensures.0 c.if-branch.true)))

pub returns : goal.returns
returns c =
    let lined = c.in_ok-push_line_text.ensures ∙ ap (λ (t : Text). t ++ line_text (chars c.args.text.now)) c.no_text-kept.ensures in
    rw c.if-not-is_kept.false (place_refused (chars c.args.text.now) _ _ _ lined c.if-branch.false (rw c.as_str.ensures.value at c.in_ok-is_node_spaces.ensures.1) c.no_text-2.ensures)
