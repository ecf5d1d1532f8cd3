use Rattle.kdl_layout.proofs.Common.{rules, ◌≡◌, ◌++◌, ap, ◌∙◌, arith, chars, Text, text_of, item_text, line_text, item_view}
use Rattle.kdl_layout.proofs.Rewriting.Pushing.{if_ok, one_char, three}
use Rattle.kdl_layout.proofs.written.push_line.Goals as goal
use Rattle.kdl_layout.proofs.written.push_line.Goals.{in-Comment, in-Comment-2}

pub returns : goal.returns
returns c =
    let same : chars c.in-Comment-1.text.now ≡ item_text (item_view c.args.item) = elim c.in-Comment-1.branch [ in-Comment w ↦ search rules | in-Comment-2 w ↦ search rules ] in
    if_ok c.push_text-2.result
    (λ e. three _ _ _ _ _ _ _ (e ∙ ap (λ (t : Text). text_of c.push_line_text.new.out ++ t) (one_char 10 (omega arith)))
    (c.in_ok-push_line_text-in-Comment.ensures ∙ ap (λ (t : Text). text_of c.push_text.new.out ++ line_text t) same) c.in_ok-push_text.ensures)
    c.push_text-2.ensures
