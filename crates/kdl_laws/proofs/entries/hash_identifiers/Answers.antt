use Rattle.kdl_entry.specs.contracts.identifier.KdlIdentifierHash.TheImpl as impl_of
use Rattle.kdl_laws.proofs.Common.{identifier_decides}
use Rattle.kdl_laws.proofs.Hashing.{both_written}
use Rattle.kdl_laws.proofs.entries.hash_identifiers.Goals as goal

pub returns : goal.returns
returns g c = both_written g.H.Hasher.write _ _ _ _ _ _ c.hash.ensures c.hash-2.ensures (impl_of.Laws.respects_eq-law c.args.a.now c.args.b.now ((identifier_decides c.args.a.now c.args.b.now).1 c.requires))
