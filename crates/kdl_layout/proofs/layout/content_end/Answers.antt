use Rattle.kdl_layout.proofs.Common.{chars-nil, ◌∙◌}
use Rattle.kdl_layout.proofs.Texts.{newline_text}
use Rattle.kdl_layout.proofs.layout.content_end.Goals as goal

pub returns-then-layout : goal.returns-then-layout
returns-then-layout c = λ ns e. rw c.if-layout.true chars-nil

pub returns-in-Some : goal.returns-in-Some
returns-in-Some c = λ ns e. rw c.if-layout.false (chars-nil ∙ (rw c.in-Some.is at e))

pub returns-in-None : goal.returns-in-None
returns-in-None c = λ ns e. rw c.if-layout.false (newline_text ∙ (rw c.in-None.is at e))
