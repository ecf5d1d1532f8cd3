use Rattle.kdl_parts.proofs.Common.{Some, ap, IsUtf8-string_bytes, Identifier, property}
use Rattle.kdl_parts.proofs.EntryLookups.{same_bytes}
use Rattle.kdl_parts.proofs.key.NodeKeyFromString.from.Goals as goal

pub returns : goal.returns
returns c = (
  ap property c.from.ensures,
  ap Some (same_bytes _ _ (IsUtf8-string_bytes c.from.result.value) (IsUtf8-string_bytes c.args.name) (ap (λ (i : Identifier). i.value) c.from.ensures)),
)
