use Rattle.kdl_parts.proofs.Common.{◌∙◌, ap, IsUtf8-string_bytes, has_name, last_place}
use Rattle.kdl_parts.proofs.EntryLookups.{same_bytes}
use Rattle.kdl_parts.proofs.places.place.Goals as goal

pub returns-in-Key : goal.returns-in-Key
returns-in-Key c =
    let same = c.last_property.ensures.place ∙ ap (λ s. last_place (has_name s) c.args.entries.now) (same_bytes _ _ c.value.utf8 (IsUtf8-string_bytes c.in-Key.name.value) c.value.ensures) in
    record { place = rw c.in-Key.is same; bound = c.last_property.ensures.bound }
