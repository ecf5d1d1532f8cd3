use Rattle.kdl.proofs.Common.{Some, ap, option_map, refl, sym, ◌∙◌, NodeFormat, node_texts, text_of, block_format}
use Rattle.kdl.proofs.Putting.NodeEnds.{block_begun, empty_string}
use Rattle.kdl.proofs.node.KdlNode.begin_block.Goals as goal

pub returns-in-Some : goal.returns-in-Some
returns-in-Some c = (
  _,
  refl,
  ap (λ (f : NodeFormat). Some f)
      (block_begun c.in-Some.format c.args.before c.replace-place.result c.unwrap_or.result c.replace-place.new.dest c.unwrap_or.ensures c.replace-place.ensures.value
      (ap text_of c.replace-place.ensures.after ∙ empty_string c.new.result c.new.ensures.bytes))
      ∙ ap (λ o. option_map (block_format (option_map text_of c.args.before)) (node_texts o)) (sym c.in-Some.is),
)
