use Rattle.kdl.proofs.ParseAnswers.{node_parsed}
use Rattle.kdl.proofs.node.KdlNode.parse.Goals as goal

pub returns : goal.returns
returns c = node_parsed c.args.text.now c.read_node_text.result c.read_node_text.ensures.found c.read_node_text.ensures.parses
