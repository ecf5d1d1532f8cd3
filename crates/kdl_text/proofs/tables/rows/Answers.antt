use Rattle.kdl_text.proofs.Looking.Vectors.{high_ok, rows_are}
use Rattle.kdl_text.proofs.tables.rows.Goals as goal

pub swizzle : goal.swizzle
swizzle c = high_ok c.args.v c.fits-v.0 c.fits-v.1

pub returns : goal.returns
returns c = rows_are c.args.v c.fits-v.0 c.fits-v.1
