use Rattle.std.proofs.Common.{ap}
use Rattle.std.specs.Str.{chars}
use Rattle.kdl_text.proofs.Looking.Texts.{chars_same}
use Rattle.kdl_text.proofs.cursor.same.Goals as goal

pub returns : goal.returns
returns c = (λ t. ap chars (c.same_bytes.ensures.0 t), λ e. c.same_bytes.ensures.1 (chars_same _ _ c.utf8.a c.utf8.b e))
