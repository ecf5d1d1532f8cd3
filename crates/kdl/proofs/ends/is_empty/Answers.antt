use Rattle.kdl_layout.proofs.Rewriting.Pushing.{no_bytes}
use Rattle.kdl.proofs.ends.is_empty.Goals as goal

pub returns : goal.returns
returns c = no_bytes c.is_empty.result c.args.text.now c.utf8.text c.is_empty.ensures
