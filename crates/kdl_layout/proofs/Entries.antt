-- The data of an entry in memory are well formed.
use Rattle.kdl_layout.proofs.Common.{Option, Some, None, option_map, Identifier, identifier_tree, KdlIdentifier, AreScalars}
use Rattle.kdl_value.proofs.WellFormed.{text_scalars}

pub scalars : (o : Option KdlIdentifier) → AreScalars (option_map (λ (i : Identifier). i.value) (option_map identifier_tree o))
scalars None = tt
scalars (Some i) = text_scalars i.value
