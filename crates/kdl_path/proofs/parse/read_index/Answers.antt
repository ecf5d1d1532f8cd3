use Rattle.std.proofs.Common.{◌++◌, sym, ap, ◌∙◌}
use Rattle.std.specs.Str.{chars}
use Rattle.kdl_path.proofs.PathReads.{digits_all, index_read, index_unread}
use Rattle.kdl_path.proofs.parse.read_index.Goals as goal

pub number_of-requires : goal.number_of-requires
number_of-requires c = digits_all _ _ _ c.skip_digits.ensures.run (sym c.checkpoint-start.ensures.rest ∙ c.slice.ensures.result ∙ ap (λ z. z ++ c.skip_digits.new.cursor.rest) (sym (ap chars c.deref.ensures ∙ c.in_ok-digits.ensures)))

pub returns-in-Some : goal.returns-in-Some
returns-in-Some c = index_read _ _ _ _ _ _ c.skip_digits.ensures.run c.skip_digits.ensures.moves c.slice.ensures.moved (sym c.checkpoint-start.ensures.rest ∙ c.slice.ensures.result ∙ ap (λ z. z ++ c.skip_digits.new.cursor.rest) (sym (ap chars c.deref.ensures ∙ c.in_ok-digits.ensures))) c.in-Some.ensures

pub returns : goal.returns
returns c = index_unread _ _ _ _ _ _ _ c.skip_digits.ensures.run c.skip_digits.ensures.moves c.slice.ensures.moved (sym c.checkpoint-start.ensures.rest ∙ c.slice.ensures.result ∙ ap (λ z. z ++ c.skip_digits.new.cursor.rest) (sym (ap chars c.deref.ensures ∙ c.in_ok-digits.ensures))) c.in-None.ensures (c.at.ensures ∙ c.checkpoint-start.ensures.at)
