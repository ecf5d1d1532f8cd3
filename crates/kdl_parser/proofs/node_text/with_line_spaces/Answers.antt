use Rattle.std.proofs.Common.{ap}
use Rattle.std.specs.Str.{chars}
use Rattle.kdl_parser.proofs.Answering.NodeTexts.{laid_there, none_there}
use Rattle.kdl_parser.proofs.node_text.with_line_spaces.Goals as goal

pub returns-in-Ok : goal.returns-in-Ok
returns-in-Ok g c =
    laid_there c.args.text.now (chars c.as_str.result.now) _ (g.N.ParsedNode.tree c.args.node) (g.N.ParsedNode.tree c.with_text_after.result) c.utf8.text c.requires.1 (ap chars c.as_str.ensures.value) c.in-Ok.ensures c.with_text_after.ensures

pub returns-in-Err : goal.returns-in-Err
returns-in-Err g c =
    none_there (chars c.args.text.now) (chars c.as_str.result.now) _ (g.N.ParsedNode.tree c.args.node) c.in-Err.failure c.requires.1 (ap chars c.as_str.ensures.value) c.in-Err.ensures
