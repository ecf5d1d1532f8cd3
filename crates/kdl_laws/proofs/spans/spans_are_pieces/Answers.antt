use Rattle.kdl_laws.proofs.PiecesOfText.{told_pieces}
use Rattle.kdl_laws.proofs.spans.spans_are_pieces.Goals as goal

pub returns : goal.returns
returns c = told_pieces c.args.text.now c.args.error.now c.utf8.text c.requires
