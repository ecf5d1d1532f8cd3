use Rattle.kdl_parts.proofs.Common.{Some, ap, IsUtf8-string_bytes, Identifier}
use Rattle.kdl_parts.proofs.EntryLookups.{same_bytes}
use Rattle.kdl_parts.proofs.key.NodeKey.from_text.Goals as goal

pub returns-clause-name : goal.returns-clause-name
returns-clause-name c =
    ap Some (same_bytes _ _ (IsUtf8-string_bytes c.in_ok-from_text.field-0.value) c.utf8.name (ap (λ (i : Identifier). i.value) c.in_ok-from_text.ensures))
