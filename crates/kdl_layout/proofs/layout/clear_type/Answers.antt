use Rattle.kdl_layout.proofs.Common.{empty_text}
use Rattle.kdl_layout.proofs.Texts.{type_cleared}
use Rattle.kdl_layout.proofs.layout.clear_type.Goals as goal

pub returns : goal.returns
returns c =
    type_cleared c.args.format.now c.clear.new.self c.clear-2.new.self c.clear-3.new.self (empty_text c.clear.new.self c.clear.ensures.bytes) (empty_text c.clear-2.new.self c.clear-2.ensures.bytes)
    (empty_text c.clear-3.new.self c.clear-3.ensures.bytes)
