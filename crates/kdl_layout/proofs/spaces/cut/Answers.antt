use Rattle.kdl_layout.proofs.Common.{ap, ◌∙◌, chars}
use Rattle.kdl_layout.proofs.Listing.Cuts.{cut_boundary, cut_front, cut_after}
use Rattle.kdl_layout.proofs.spaces.cut.Goals as goal

pub split_at-requires : goal.split_at-requires
split_at-requires c = let (p, r, e, n) = c.requires in cut_boundary c.args.text.now p r c.args.at c.utf8.text e n

pub returns-clause-parts : goal.returns-clause-parts
returns-clause-parts c = λ p r e n. (
  ap chars c.split_at.ensures.front ∙ cut_front c.args.text.now p r c.args.at c.utf8.text e n,
  ap chars c.split_at.ensures.back ∙ cut_after c.args.text.now p r c.args.at c.utf8.text e n,
)
