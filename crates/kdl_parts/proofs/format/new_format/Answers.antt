use Rattle.kdl_parts.proofs.Common.{[], ◌∷◌, ap, ◌∙◌, IsUtf8-string_bytes, string_bytes, Text, node_format_tree}
use Rattle.kdl_grammar.specs.Tree.{NodeFormat}
use Rattle.kdl_parts.proofs.BomText.{one_char}
use Rattle.kdl_parts.proofs.format.new_format.Goals as goal

pub returns : goal.returns
returns c =
    let lf = one_char 10 (string_bytes c.new-trailing.result) (string_bytes c.push.new.self) c.new-trailing.ensures.bytes (IsUtf8-string_bytes c.push.new.self) c.in_ok-push.ensures.bytes in
    ap (λ (t : Text). record (node_format_tree c.new-format.result) { trailing = t }) lf ∙ ap (λ (f : NodeFormat). record f { trailing = 10 ∷ [] }) c.new-format.ensures
