use Rattle.std.proofs.Common.{refl, ◌∙◌}
use Rattle.std.specs.Prelude.{codes}
use Rattle.kdl_value.proofs.Spelling.SpellingBytes.{bytes_eq-chars}
use Rattle.kdl_value.proofs.spelled.is_negative_infinity.Goals as goal

pub returns : goal.returns
returns c = c.eq.ensures ∙ bytes_eq-chars c.args.s.now (codes "-inf") c.utf8.s refl
