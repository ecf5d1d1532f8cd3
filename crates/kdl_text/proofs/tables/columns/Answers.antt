use Rattle.kdl_text.proofs.Looking.Vectors.{low_ok, columns_are}
use Rattle.kdl_text.proofs.tables.columns.Goals as goal

pub swizzle : goal.swizzle
swizzle c = low_ok c.args.v c.fits-v.0

pub returns : goal.returns
returns c = columns_are c.args.table c.args.v c.fits-v.0 c.fits-v.1
