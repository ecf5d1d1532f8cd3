use Rattle.kdl_layout.proofs.Common.{print_value, value_tree}
use Rattle.kdl_layout.proofs.Texts.{printed_text}
use Rattle.kdl_layout.proofs.kept.printed.Goals as goal

pub returns : goal.returns
returns c = printed_text c.to_string.result (print_value (value_tree c.args.value.now)) c.to_string.ensures.ok
