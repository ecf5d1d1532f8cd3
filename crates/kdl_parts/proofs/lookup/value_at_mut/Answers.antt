use Rattle.kdl_parts.proofs.Common.{refl, ap, sym, Some, slice_get_read}
use Rattle.kdl_parts.proofs.EntryLookups.{set_value_is}
use Rattle.kdl_parts.proofs.lookup.value_at_mut.Goals as goal

pub returns : goal.returns
returns c =
    let there = slice_get_read _ _ _ _ refl c.requires c.index_mut.ensures.value in
    ((refl, λ w. set_value_is _ _ _ there w), record { writes_back = tt; value = rw there (ap Some (sym c.value_mut.ensures.value)) })
