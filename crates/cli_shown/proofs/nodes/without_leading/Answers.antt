use Rattle.std.proofs.Common.{◌++◌, ◌∙◌, List, ap, sym, ℕ}
use Rattle.std.specs.Str.{encode_utf8_all}
use Rattle.kdl.specs.Words.{node_tree}
use Rattle.cli_shown.specs.Nodes.{node_text}
use Rattle.cli_shown.proofs.Texts.{printed_bytes, stripped}
use Rattle.cli_shown.proofs.nodes.without_leading.Goals as goal

pub returns-in-Some-strip_prefix : goal.returns-in-Some-strip_prefix
returns-in-Some-strip_prefix c =
    let rest = encode_utf8_all (node_text (node_tree c.args.node.now)) in
    let all = printed_bytes c.args.node.now c.in-Some.format.now c.args.printed.now (sym c.in-Some.ensures.value) c.requires
    ∙ ap (λ (t : List ℕ). t ++ rest) (sym c.as_str.ensures.value) in
    let (k, found, cut, len) = c.in-Some-strip_prefix.ensures.cases in
    stripped c.as_str.result.now rest c.args.printed.now c.in-Some-strip_prefix.text.now k all found.1 cut

pub returns-in-None : goal.returns-in-None
returns-in-None c =
    let rest = encode_utf8_all (node_text (node_tree c.args.node.now)) in
    let all = printed_bytes c.args.node.now c.in-Some.format.now c.args.printed.now (sym c.in-Some.ensures.value) c.requires
    ∙ ap (λ (t : List ℕ). t ++ rest) (sym c.as_str.ensures.value) in
    absurd (c.in-None.ensures.cases rest all)
