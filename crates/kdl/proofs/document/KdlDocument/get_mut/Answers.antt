use Rattle.kdl.proofs.Common.{◌≡◌, Some, ap, inl, length, option_map, position, refl, sym, ◌∙◌, slice_get_read, is_node_named, node_named, nodes_of, with_node_there, node_says}
use Rattle.kdl.proofs.Finding.DocumentLookups.{found_is, none_there}
use Rattle.kdl.proofs.Finding.SaidLookups.{node_said}
use Rattle.kdl.proofs.PiecesExchanged.{named_exchanges}
use Rattle.kdl.proofs.ReadingBack.{named_reads}
use Rattle.kdl.proofs.document.KdlDocument.get_mut.Goals as goal

pub returns-in-Some : goal.returns-in-Some
returns-in-Some c =
    let found = c.in-Some.ensures.place ∙ ap (position (is_node_named c.args.name.now)) c.deref.ensures.value in
    let value : Some c.index_mut.result.now ≡ node_named c.args.name.now c.args.self.now =
    found_is (is_node_named c.args.name.now) (nodes_of c.args.self.now) c.in-Some.at _ found (slice_get_read _ (length c.deref.result.now) _ _ (ap length c.deref.ensures.value) c.in-Some.ensures.bound c.index_mut.ensures.value) in (
      ap (λ o. inl (c.index_mut.result.ghost_name, λ n. with_node_there o c.args.self.now n)) found,
      (
        value,
        (
          ap (option_map node_says) value ∙ node_said c.args.name.now c.args.self.now c.utf8.name,
          (
            λ m f. (named_reads c.args.name.now c.args.self.now _ m value f).0,
            (
              λ m f. (named_reads c.args.name.now c.args.self.now _ m value f).1,
              named_exchanges c.args.name.now c.args.self.now c.index_mut.result.now value,
            ),
          ),
        ),
      ),
    )

pub returns-in-None : goal.returns-in-None
returns-in-None c =
    let absent = c.in-None.ensures.place ∙ ap (position (is_node_named c.args.name.now)) c.deref.ensures.value in
    let value = sym (none_there (is_node_named c.args.name.now) (nodes_of c.args.self.now) absent) in
    (refl, (value, (ap (option_map node_says) value ∙ node_said c.args.name.now c.args.self.now c.utf8.name, (tt, (tt, tt)))))
