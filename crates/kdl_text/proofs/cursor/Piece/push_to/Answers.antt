use Rattle.std.proofs.lemmas.Str.{IsUtf8-string_bytes}
use Rattle.std.specs.Prelude.{string_bytes}
use Rattle.kdl_text.proofs.Looking.SliceCost.{pushed}
use Rattle.kdl_text.proofs.cursor.Piece.push_to.Goals as goal

pub returns : goal.returns
returns c = pushed c.push_str.result (string_bytes c.args.out.now) _ c.self.inside.text.now c.args.self.now (IsUtf8-string_bytes c.args.out.now) c.push_str.ensures.bytes c.self.view_is
