use Rattle.kdl_parts.specs.contracts.format.KdlNodeFormatHash.TheImpl as impl_of
use Rattle.kdl_laws.proofs.Common.{node_format_decides}
use Rattle.kdl_laws.proofs.Hashing.{both_written}
use Rattle.kdl_laws.proofs.formats.hash_node_formats.Goals as goal

pub returns : goal.returns
returns g c = both_written g.H.Hasher.write _ _ _ _ _ _ c.hash.ensures c.hash-2.ensures (impl_of.Laws.respects_eq-law c.args.a.now c.args.b.now ((node_format_decides c.args.a.now c.args.b.now).1 c.requires))
