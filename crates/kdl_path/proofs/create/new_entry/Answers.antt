use Rattle.kdl_value.specs.Tree.{text_of, value_tree}
use Rattle.kdl_path.proofs.Made.{new_entry_is}
use Rattle.kdl_path.proofs.create.new_entry.Goals as goal

pub returns : goal.returns
returns c = λ ok. new_entry_is c.args.target.now (value_tree c.args.value.value) (text_of c.args.value.spelling) c.in_ok-entry.entry c.set_spelled.new.entry c.in_ok-entry.ensures c.in_ok-set_spelled.ensures ok
