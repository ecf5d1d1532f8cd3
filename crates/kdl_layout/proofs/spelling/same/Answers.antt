use Rattle.kdl_layout.proofs.Common.{ap, Decides-at, chars}
use Rattle.std.proofs.lemmas.Slice.Eq.{bytes_eq-Decides}
use Rattle.kdl_text.proofs.Looking.Texts.{chars_same}
use Rattle.kdl_layout.proofs.spelling.same.Goals as goal

pub returns : goal.returns
returns c =
    let d = Decides-at _ _ c.eq.ensures (bytes_eq-Decides c.args.a.now c.args.b.now) in
    (λ h. ap chars (d.0 h), λ e. d.1 (chars_same _ _ c.utf8.a c.utf8.b e))
