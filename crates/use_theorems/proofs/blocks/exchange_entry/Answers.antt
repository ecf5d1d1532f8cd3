use Rattle.std.proofs.Common.{IsSome, rules, subst, sym}
use Rattle.kdl.specs.Words.{IsExchangedInNode, entry_tree, node_format_of, print_piece, with_found_entry}
use Rattle.kdl.specs.declared.KdlEntry.{KdlEntry}
use Rattle.kdl.specs.declared.NodeKey.TheVariants.{Index}
use Rattle.use_theorems.proofs.blocks.exchange_entry.Goals as goal

pub returns-clause-bytes : goal.returns-clause-bytes
returns-clause-bytes c =
    let n = c.args.node.now in
    let m = with_found_entry (Index c.args.index) n c.replace-old.new.dest in
    let was = c.in-Some.place.now in
    let formed : IsSome (node_format_of n) = search rules in
    let is = subst (λ (e : KdlEntry). IsExchangedInNode (print_piece (entry_tree was)) (print_piece (entry_tree e)) n m) c.replace-old.ensures.after (c.in-Some.ensures.bytes c.replace-old.new.dest formed) in
    subst (λ (e : KdlEntry). IsExchangedInNode (print_piece (entry_tree e)) (print_piece (entry_tree c.args.entry)) n m) (sym c.replace-old.ensures.value) is
