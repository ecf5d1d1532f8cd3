use Rattle.std.proofs.Common.{◌++◌, ap, sym, ◌∙◌}
use Rattle.std.specs.Str.{chars}
use Rattle.std.proofs.lemmas.Str.{chars-nil}
use Rattle.kdl_text.specs.Numbers.{plain}
use Rattle.kdl_text.proofs.Numeric.DecimalReads.{has_no_underscore, plain_same}
use Rattle.kdl_text.proofs.numbers.without_underscores.Goals as goal

pub returns : goal.returns
returns c = c.in_ok-push_plain.ensures ∙ ap (λ z. z ++ plain (chars c.as_str-text.result.now)) (ap chars c.in_ok-out.ensures.bytes ∙ chars-nil) ∙ ap plain c.as_str-text.ensures

pub returns-then-has_no_underscore : goal.returns-then-has_no_underscore
returns-then-has_no_underscore c = rw (plain_same c.args.piece.now (ap has_no_underscore (sym c.as_str-text.ensures) ∙ sym c.has_no_underscore.ensures ∙ c.if-has_no_underscore.true)) c.to_string.ensures
