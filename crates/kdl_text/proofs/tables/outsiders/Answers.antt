use Rattle.kdl_text.proofs.Looking.Vectors.{outsiders_are}
use Rattle.kdl_text.proofs.tables.outsiders.Goals as goal

pub returns : goal.returns
returns c = outsiders_are c.args.table c.args.v _ _ c.fits-v.0 c.columns.ensures c.rows.ensures
