use Rattle.kdl_layout.proofs.Texts.{text_repeated}
use Rattle.kdl_layout.proofs.layout.repeated.Goals as goal

pub returns : goal.returns
returns c = text_repeated c.repeat.result c.args.times c.args.text.now c.utf8.text c.repeat.ensures.bytes
