use Rattle.kdl.proofs.Common.{◌≡◌, Some, ap, inl, length, option_and_then, position, sym, ◌∙◌, slice_get_read, argument_named, first_argument, is_node_named, nodes_of, with_argument_in, with_argument_there, held_value}
use Rattle.kdl.proofs.Finding.DocumentLookups.{found_is}
use Rattle.kdl.proofs.Finding.NodesFound.{argument_sets}
use Rattle.kdl.proofs.document.KdlDocument.get_arg_mut.Goals as goal

pub returns-in-Some : goal.returns-in-Some
returns-in-Some c =
    let found = c.in-Some.ensures.place ∙ ap (position (is_node_named c.args.name.now)) c.deref.ensures.value in
    let there = slice_get_read (nodes_of c.args.self.now) (length c.deref.result.now) c.in-Some.at c.index_mut.result.now (ap length c.deref.ensures.value) c.in-Some.ensures.bound c.index_mut.ensures.value in
    let value : Some c.index_mut-in-Some.result.now ≡ held_value (argument_named c.args.name.now c.args.self.now) =
    sym c.index_mut-in-Some.ensures.value
    ∙ ap (λ o. held_value (option_and_then first_argument o)) (found_is (is_node_named c.args.name.now) (nodes_of c.args.self.now) c.in-Some.at c.index_mut.result.now found there) in (
      ap (λ o. inl (c.index_mut-in-Some.result.ghost_name, λ w. with_argument_in c.args.self.now c.in-Some.at o w)) (sym there)
          ∙ ap (λ o. inl (c.index_mut-in-Some.result.ghost_name, λ w. with_argument_there o c.args.self.now w)) found,
      (value, argument_sets c.args.name.now c.args.self.now (Some c.index_mut-in-Some.result.now) value),
    )
