use Rattle.kdl_layout.proofs.Common.{refl, IsUtf8-string_bytes, string_bytes, chars}
use Rattle.kdl_text.proofs.Looking.SliceCost.{pushed}
use Rattle.kdl_layout.proofs.written.push_text.Goals as goal

pub returns : goal.returns
returns c =
    pushed c.push_str.result (string_bytes c.args.out.now) (string_bytes c.push_str.new.self) c.args.text.now (chars c.args.text.now)
    (IsUtf8-string_bytes c.args.out.now) c.push_str.ensures.bytes refl
