use Rattle.std.proofs.Common.{ℕ, [], ap, ◌∙◌}
use Rattle.std.proofs.lemmas.Str.{chars-nil}
use Rattle.kdl_text.specs.Chars.{Text}
use Rattle.kdl_text.specs.Internal.Here.{Here}
use Rattle.kdl_text.proofs.cursor.Cursor.take_over.Goals as goal

start : Text → ℕ → Here
start t n = record { text = t; rest = t; at = 0; steps = n }

pub returns-clause-left : goal.returns-clause-left
unfolding start
returns-clause-left c = c.replace.ensures.after ∙ c.new-2.ensures ∙ ap (λ t. start t c.new.result) chars-nil ∙ ap (start []) c.new.ensures
