use Rattle.std.proofs.Common.{◌≡◌, Some, ap, chars, refl, rules, subst, ◌∙◌}
use Rattle.kdl.specs.Words.{Entry, IsExchanged, IsSet, Sought, document_prints, entry_tree, piece_of, plain_entry, plain_identifier, print_piece, property, sought, under, value_tree, with_node_named}
use Rattle.use_theorems.proofs.port.set_in.Goals as goal

pub returns-clause-reads : goal.returns-clause-reads
returns-clause-reads c =
    c.in-Some.ensures.reads _ (c.insert.ensures.reads_unformed (c.new_entries_are_unformed.ensures.named _ _ _ _ c.in_ok-key.ensures.sought c.new.ensures.tree c.values_are_well_formed.ensures)) c.requires

pub returns-clause-sets : goal.returns-clause-sets
returns-clause-sets c has =
    let set : IsSet c.args.name.now (value_tree c.args.value) c.in-Some.found.now c.insert.new.self = search rules in
    c.property_set_is_said.ensures c.args.node.now c.args.name.now (value_tree c.args.value) c.args.document.now c.in-Some.found.now c.insert.new.self _ _ c.utf8.node c.utf8.name c.in-Some.ensures.value c.insert.ensures.rest set refl refl

pub returns-clause-bytes : goal.returns-clause-bytes
returns-clause-bytes c has =
    let d = c.args.document.now in
    let node = c.in-Ok.ensures.bytes (c.found_node_has_format.ensures c.args.node.now d c.in-Some.found.now c.requires c.in-Some.ensures.value) in
    let entry : under (sought c.in_ok-key.key) (entry_tree c.new.result) ≡ plain_entry (Some (plain_identifier (chars c.args.name.now))) (value_tree c.args.value) =
    ap (λ (q : Sought). under q (entry_tree c.new.result)) c.in_ok-key.ensures.sought ∙ ap (under (property (plain_identifier (chars c.args.name.now)))) c.new.ensures.tree in
    let e = document_prints (with_node_named c.args.node.now d c.insert.new.self) in
    let p = piece_of c.in-Ok.field-0 in
    (p, c.replaced_piece_is_said.ensures c.args.node.now c.args.name.now c.in_ok-key.key d c.in-Some.found.now c.in-Ok.field-0 c.utf8.node c.utf8.name c.requires c.in-Some.ensures.value c.in_ok-key.ensures.name c.in-Ok.ensures.replaced, subst (λ (x : Entry). IsExchanged p (print_piece x) (document_prints d) e) entry ((c.in-Some.ensures.bytes _ _ _ node).prints 0))
