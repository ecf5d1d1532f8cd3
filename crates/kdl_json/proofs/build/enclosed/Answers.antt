-- A node with a block.
use Rattle.std.proofs.Common.{ap, sym, subst, ◌∙◌}
use Rattle.kdl.specs.Layout.{NodeKeepsNoForm}
use Rattle.kdl.specs.Tree.{node_says}
use Rattle.kdl_json.proofs.Built.{says_block}
use Rattle.kdl_json.proofs.Plain.{plain_block}
use Rattle.kdl_json.proofs.build.enclosed.Goals as goal

pub returns-clause-plain : goal.returns-clause-plain
returns-clause-plain c = λ h k. subst NodeKeepsNoForm (sym c.set_children.ensures) (plain_block c.args.node c.args.block h k)

pub returns-clause-data : goal.returns-clause-data
returns-clause-data c = ap node_says c.set_children.ensures ∙ says_block c.args.node c.args.block
