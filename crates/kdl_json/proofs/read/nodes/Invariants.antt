use Rattle.std.proofs.Common.{length}
use Rattle.kdl.specs.Tree.{document_says}
use Rattle.kdl_json.specs.Reading.{left}
use Rattle.kdl_json.proofs.Frames.{Reached}
use Rattle.kdl_json.proofs.OpenNodes.{ArePlain}
use Rattle.kdl_json.proofs.read.nodes.Given as goal

-- all tokens are those of the open blocks and of the nodes so far, and those that are left, which complete them; no node
-- that was read keeps its form
abbrev pub invariant-tokens : goal.invariant-tokens
invariant-tokens l = record {
  reached : Reached (left l.fn.source) l.open.items (document_says l.nodes) (left l.source);
  plain : ArePlain l.open.items l.nodes;
}

-- the tokens that are left
abbrev pub decreases-tokens : goal.decreases-tokens
decreases-tokens l = length (left l.source)
