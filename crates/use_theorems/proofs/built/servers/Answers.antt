use Rattle.std.proofs.Common.{◌≡◌, Some, chars, codes, pos, rules, ◌∙◌}
use Rattle.kdl.specs.Words.{integer, node_says, said_property}
use Rattle.use_theorems.proofs.MadeNodes.{same_property, two_said}
use Rattle.use_theorems.proofs.built.servers.Goals as goal

pub returns : goal.returns
returns c =
    let port = chars (codes "port") in
    let first = c.in_ok-with_block.field-0 in
    let second = c.in_ok-second.second in
    let one : said_property port (node_says c.in_ok-first.first) ≡ Some (integer (pos 8080)) = search rules in
    let other : said_property port (node_says second) ≡ Some (integer (pos 8081)) = search rules in
    two_said c.two_nodes.result (node_says first) (node_says second) _ _ port _ _ c.two_nodes.ensures (c.in_ok-with_block.ensures.name ∙ c.in_ok-first.ensures.name) c.in_ok-second.ensures.name (same_property port (node_says c.in_ok-first.first) (node_says first) c.in_ok-with_block.ensures.entries ∙ one) other
