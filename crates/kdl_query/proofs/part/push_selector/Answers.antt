use Rattle.std.proofs.Common.{map, sym}
use Rattle.kdl_query.specs.Tree.{first_says}
use Rattle.kdl_query.specs.Internal.Parts.{part_says}
use Rattle.kdl_query.proofs.Compiling.{all_pushed}
use Rattle.kdl_query.proofs.part.push_selector.Goals as goal

pub returns : goal.returns
returns c =
    all_pushed (first_says c.args.selector.now.first) c.args.selector.now.steps.items c.as_slice-steps.result.now (map part_says c.args.parts.now.items) (map part_says c.push_first.new.parts.items) (map part_says c.push_steps.new.parts.items)
    c.as_slice-steps.ensures.value (sym c.if-is_empty.ensures) c.in_ok-push_first.ensures c.in_ok-push_steps.ensures
