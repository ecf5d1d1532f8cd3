use Rattle.kdl_parts.proofs.Common.{◌∙◌, ap, IsUtf8-string_bytes, has_name}
use Rattle.std.specs.Prelude.{position}
use Rattle.kdl_parts.proofs.EntryLookups.{same_bytes}
use Rattle.kdl_parts.proofs.places.place_to_remove.Goals as goal

pub returns-in-Key : goal.returns-in-Key
returns-in-Key c =
    let same = c.first_property.ensures.place ∙ ap (λ s. position (has_name s) c.args.entries.now) (same_bytes _ _ c.value.utf8 (IsUtf8-string_bytes c.in-Key.name.value) c.value.ensures) in
    record { place = rw c.in-Key.is same; bound = c.first_property.ensures.bound }
