use Rattle.kdl_layout.proofs.Common.{empty_text}
use Rattle.kdl_layout.proofs.kept.no_text.Goals as goal

pub returns : goal.returns
returns c = empty_text c.new.result c.new.ensures.bytes
