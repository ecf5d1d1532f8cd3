use Rattle.kdl_parts.proofs.Common.{◌≡◌, ◌<◌, ◌∙◌, Some, ap, arith, length, refl, sym, unwrap_or, insert, slice_get_read, entry_tree, place_of}
use Rattle.kdl_parts.proofs.EntryEdits.{key_put, key_replaced, key_under, index_put, index_under, set_around}
use Rattle.kdl_parts.proofs.edit.insert.Goals as goal
use Rattle.kdl_parts.proofs.edit.insert.Goals.{In-Some}

-- the place that was found is that of an entry
at_found : (c : In-Some) → Some c.in-Some.at ≡ place_of c.args.key c.args.entries.now.items
at_found c = sym c.in-Some.is ∙ c.place-at.ensures.place ∙ ap (place_of c.args.key) c.deref.ensures.value

at_bound : (c : In-Some) → c.in-Some.at < length c.args.entries.now.items
at_bound c = omega (arith, c.in-Some.ensures.bound, ap length c.deref.ensures.value)

pub returns-in-Some-clause-items : goal.returns-in-Some-clause-items
returns-in-Some-clause-items c =
    let k = goal.at.returns-in-Some-clause-items c in
    let f = c.replace.new.dest in
    let es = c.args.entries.now.items in
    record {
      entry = f;
      tree = key_under c.args.key c.in-Key.name f (entry_tree c.args.entry) c.in-Key.is (ap entry_tree c.replace.ensures.after ∙ c.named-entry.ensures);
      items = set_around es c.in-Some.at f (at_bound k.In-Some) ∙ key_put c.args.key c.in-Key.name (Some c.in-Some.at) f es c.in-Key.is (at_found k.In-Some);
    }

pub returns-in-Some-clause-replaced : goal.returns-in-Some-clause-replaced
returns-in-Some-clause-replaced c =
    let k = goal.at.returns-in-Some-clause-replaced c in
    let es = c.args.entries.now.items in
    ap Some c.replace.ensures.value
    ∙ sym (slice_get_read es (length es) c.in-Some.at c.index_mut.result.now refl (at_bound k.In-Some) c.index_mut.ensures.value)
    ∙ key_replaced c.args.key c.in-Key.name (Some c.in-Some.at) es c.in-Key.is (at_found k.In-Some)

pub returns-in-Ok-clause-items : goal.returns-in-Ok-clause-items
returns-in-Ok-clause-items c =
    let es = c.args.entries.now.items in
    let len : c.len.result ≡ length es = omega (arith, c.len.ensures, c.deref.ensures.len, ap length c.deref.ensures.value) in
    record {
      entry = c.args.entry;
      tree = index_under c.args.key _ (entry_tree c.args.entry) c.in-Index.is;
      items = c.in-Ok.ensures.items ∙ ap (λ i. insert es i c.args.entry) (c.unwrap_or-at.ensures ∙ ap (unwrap_or c.place-at.result) len)
          ∙ index_put c.args.key _ c.place-at.result c.args.entry es c.in-Index.is (c.place-at.ensures.place ∙ ap (place_of c.args.key) c.deref.ensures.value);
    }
