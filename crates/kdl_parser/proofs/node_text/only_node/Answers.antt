use Rattle.std.proofs.Common.{sym, ◌∙◌, arith}
use Rattle.kdl_parser.proofs.Answering.NodeTexts.{one_left}
use Rattle.kdl_parser.proofs.node_text.only_node.Goals as goal

pub returns : goal.returns
returns g c =
    one_left c.args.nodes.items _ c.in-Some.node (sym c.into_iter-rest.ensures.rest ∙ c.in-Some.ensures.cases.0)
    (omega (arith, c.in-Some.ensures.cases.1, c.in_default-next.ensures.cases.0, c.into_iter-rest.ensures.len, c.args.nodes.ok.0))
