use Rattle.kdl.proofs.Common.{◌≡◌, ◌∙◌, ap, false, true, sym, text_of}
use Rattle.kdl.proofs.Putting.NodeEnds.{empty_string, no_space_put, space_put}
use Rattle.kdl.proofs.ends.space_before_block.Goals as goal
use Rattle.kdl.proofs.ends.space_before_block.Goals.{then-not-ends_formatted+in_ok-push_text, else-not-ends_formatted}

pub returns : goal.returns
returns c =
    let empty = empty_string c.new-before.result c.new-before.ensures.bytes in
    let last = c.ends_formatted.ensures in
    elim c.if-not-ends_formatted.branch [
      | then-not-ends_formatted+in_ok-push_text w ↦
          let t = w.if-not-ends_formatted.true in
          let h : c.ends_formatted.result ≡ false = cc in
          ap text_of w.before-is ∙ space_put _ _ _ (sym last ∙ h) empty w.in_ok-push_text.ensures
      | else-not-ends_formatted w ↦
          let t = w.if-not-ends_formatted.false in
          let h : c.ends_formatted.result ≡ true = cc in
          ap text_of w.before-is ∙ no_space_put _ _ (sym last ∙ h) empty
    ]
