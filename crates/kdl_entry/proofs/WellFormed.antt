-- The strings of identifiers in memory are of Unicode scalar values.
use Rattle.std.proofs.Common.{◌≡◌, true, Option, Some, None, option_map}
use Rattle.std.specs.Prelude.{IfSome}
use Rattle.std.specs.List.{list_all}
use Rattle.kdl_text.specs.Chars.{is_scalar}
use Rattle.kdl_entry.specs.Tree.{Identifier, identifier_tree}
use Rattle.kdl_entry.specs.declared.identifier.KdlIdentifier.{KdlIdentifier}
use Rattle.kdl_value.proofs.WellFormed.{text_scalars}

pub name_scalars : (i : Option KdlIdentifier) → IfSome (option_map identifier_tree i) (λ (j : Identifier). list_all is_scalar j.value ≡ true)
name_scalars None = tt
name_scalars (Some i) = text_scalars i.value
