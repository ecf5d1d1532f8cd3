use Rattle.std.proofs.Common.{sym, ◌∙◌}
use Rattle.kdl_text.specs.Internal.Here.{in_class}
use Rattle.kdl_text.proofs.Looking.Parts.{part_same}
use Rattle.kdl_text.proofs.Looking.SliceCost.{ran_sliced}
use Rattle.kdl_text.proofs.strings.run_of.Goals as goal

pub slice-requires : goal.slice-requires
slice-requires c = (c.skip.ensures.0, c.checkpoint-start.ensures.rest ∙ c.skip.ensures.1.text, part_same c.checkpoint-start.ensures.part c.skip.ensures.1.same)

pub returns : goal.returns
returns c = ran_sliced (in_class c.args.class) _ _ _ _ c.skip.ensures (sym c.checkpoint-start.ensures.rest ∙ c.slice.ensures.result) c.slice.ensures.moved
