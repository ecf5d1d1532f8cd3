use Rattle.kdl_layout.proofs.Common.{[], ◌∷◌, ◌++◌, ap, sym, ◌∙◌, append-nil, subst, chars, Text, text_of, KeptEnd}
use Rattle.kdl_layout.proofs.Texts.{space_text}
use Rattle.kdl_layout.proofs.layout.line_end.Goals as goal
use Rattle.kdl_layout.proofs.layout.line_end.Goals.{in-Some+in_ok-push_text+in_ok-push_text-2, in_default}

pub returns : goal.returns
returns c =
    let left = c.args.config.now.no_comments in
    let last = text_of c.args.last in
    let terminator = chars c.args.terminator.now in
    let empty = c.no_text-end.ensures in
    elim c.match-kept_end.branch [
      | in-Some+in_ok-push_text+in_ok-push_text-2 w ↦
          let comment = chars w.in-Some.comment.now in
          let end = ap text_of w.end-is ∙ w.in_ok-push_text-2.ensures ∙ ap (λ (t : Text). t ++ comment) empty in (
            32 ∷ [],
            subst (λ (t : Text). KeptEnd left terminator (32 ∷ []) t) (sym end) w.in-Some.ensures,
            ap text_of w.last-is ∙ w.in_ok-push_text.ensures ∙ ap (λ (t : Text). last ++ t) space_text,
          )
      | in_default w ↦
          let end = ap text_of w.end-is ∙ empty in (
            [],
            subst (λ (t : Text). KeptEnd left terminator [] t) (sym end) w.in_default.ensures,
            ap text_of w.last-is ∙ sym (append-nil last),
          )
    ]
