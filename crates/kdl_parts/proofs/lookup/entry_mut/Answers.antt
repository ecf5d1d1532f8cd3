use Rattle.kdl_parts.proofs.Common.{ap, length, sym, ◌∙◌, slice_get_read, place_of}
use Rattle.std.proofs.Common.{inl}
use Rattle.kdl_parts.specs.Written.{set_entry_there}
use Rattle.kdl_parts.proofs.EntryLookups.{found_at}
use Rattle.kdl_parts.proofs.lookup.entry_mut.Goals as goal

pub returns : goal.returns
returns c =
    let found = sym c.in_ok-at.was ∙ c.place-at.ensures.place ∙ ap (place_of c.args.key) c.deref.ensures.value in
    (ap (λ o. inl (c.index_mut.result.ghost_name, λ e. set_entry_there o c.args.entries.now e)) found, record { writes_back = tt; value = found_at _ _ c.in_ok-at.at _ found (slice_get_read _ (length c.deref.result.now) _ _ (ap length c.deref.ensures.value) c.in_ok-at.ensures.bound c.index_mut.ensures.value) })
