use Rattle.std.proofs.Common.{rules, ◌≡◌, length, refl, Some, slice_get, subst, sym}
use Rattle.std.proofs.lemmas.Option.{slice_get_read}
use Rattle.kdl.specs.Words.{nodes_of, with_nodes}
use Rattle.std.specs.Vec.{with_item}
use Rattle.kdl_path.specs.Internal.Laid.{IsBlockLaid}
use Rattle.kdl_path.proofs.Changes.{on_ok}
use Rattle.kdl_path.proofs.Ends.{block_unchanged, node_laid, nodes_kept}
use Rattle.kdl_path.proofs.change.begin_next.Goals as goal

pub returns-in_default : goal.returns-in_default
returns-in_default c = block_unchanged c.args.block.now

pub returns-then-at-gt0 : goal.returns-then-at-gt0
returns-then-at-gt0 c = block_unchanged c.args.block.now

pub returns-in-Some-get_mut : goal.returns-in-Some-get_mut
returns-in-Some-get_mut c =
    let d = c.args.block.now in
    let ns = nodes_of d in
    let n = c.in-Some-get_mut.next.now in
    let at : slice_get ns 1 ≡ Some n = slice_get_read ns (length ns) 1 n refl (search rules) (search rules) in
    on_ok c.begin_line.result (λ h. subst (λ v. IsBlockLaid d (with_nodes d (with_item v 1 c.begin_line.new.node))) (sym c.nodes_mut.ensures.value) (node_laid d 1 n c.begin_line.new.node at h)) c.begin_line.ensures

pub returns-in-None : goal.returns-in-None
returns-in-None c = subst (λ v. IsBlockLaid c.args.block.now (with_nodes c.args.block.now v)) (sym c.nodes_mut.ensures.value) (nodes_kept c.args.block.now)
