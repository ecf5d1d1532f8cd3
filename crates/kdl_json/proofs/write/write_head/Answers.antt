-- A node up to its entries.
use Rattle.std.proofs.Common.{map, ap, ◌∙◌, sym, subst}
use Rattle.std.specs.Prelude.{codes}
use Rattle.json.specs.Token.{begin_array, begin_object, end_array, key}
use Rattle.kdl_entry.specs.Tree.{entry_data, entry_tree, identifier_tree}
use Rattle.kdl_entry.specs.declared.entry.KdlEntry.{KdlEntry}
use Rattle.kdl_layout.specs.WellFormed.{AreWellFormedEntries}
use Rattle.kdl.specs.Lookups.{entries_of}
use Rattle.kdl.specs.Tree.{node_says}
use Rattle.kdl_json.proofs.Appending.{and_part, and_token, append_same, last_token, nothing}
use Rattle.kdl_json.proofs.Fit.{entries_mapped, head_fit, head_is}
use Rattle.kdl_json.proofs.Results.{mapped_twice, on_ok}
use Rattle.kdl_json.proofs.write.write_head.Goals as goal

pub returns-clause-written : goal.returns-clause-written
returns-clause-written c =
    let n = node_says c.args.node.now in
    let w1 = c.in_ok-begin_object.ensures in
    let w2 = c.in_ok-write_name.ensures in
    let w3 = c.in_ok-write_optional.ensures in
    let w4 = c.in_ok-key.ensures in
    let w5 = c.in_ok-begin_array.ensures in
    let w6 = c.in_ok-write_entries.ensures.written in
    let a1 = and_token c.args.out.now c.args.out.now c.begin_object.new.self (λ ts. ts) begin_object (nothing c.args.out.now) w1.room.0 w1.ok in
    let a2 = and_part _ _ c.write_name.new.out _ _ a1 w2.before w2.tokens in
    let a3 = and_part _ _ c.write_optional.new.out _ _ a2 w3.before w3.tokens in
    let a4 = and_token _ _ c.key.new.self _ (key (codes "entries")) a3 w4.room.0 w4.ok in
    let a5 = and_token _ _ c.begin_array.new.self _ begin_array a4 w5.room.0 w5.ok in
    let a6 = and_part _ _ c.write_entries.new.out _ _ a5 w6.before w6.tokens in
    append_same c.end_array.result c.args.out.now c.end_array.new.self _ _ (last_token c.end_array.result _ _ c.end_array.new.self _ end_array a6 c.end_array.ensures)
    (head_is n _ _ _ (mapped_twice (λ i. identifier_tree i.now) (λ i. i.value) c.ty.result ∙ c.ty.ensures.said) c.name.ensures.said c.entries.ensures.said)

pub returns-clause-fit : goal.returns-clause-fit
returns-clause-fit c =
    let es = entries_of c.args.node.now in
    on_ok c.end_array.result (head_fit c.args.node.now
    (subst AreWellFormedEntries (ap (map (λ (e : KdlEntry). entry_data (entry_tree e))) c.entries.ensures.value ∙ sym (entries_mapped es)) c.in_ok-write_entries.ensures.fit))
