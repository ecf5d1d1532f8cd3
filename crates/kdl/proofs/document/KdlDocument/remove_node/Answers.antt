use Rattle.kdl.proofs.Common.{Some, ap, sym, ◌∙◌, slice_get-get_or, with_nodes, nodes_of}
use Rattle.kdl.proofs.Putting.PutReads.{taken_reads}
use Rattle.kdl.proofs.Putting.Puts.{nodes_with, span_kept, taken_prints, taken_says, with_nodes_own}
use Rattle.kdl.proofs.document.KdlDocument.remove_node.Goals as goal

pub returns-clause-prints : goal.returns-clause-prints
returns-clause-prints c =
    let d = c.args.self.now in
    let v = c.remove.new.self in
    taken_prints c.args.index c.remove.result d (with_nodes d v) (slice_get-get_or (nodes_of d) c.args.index c.remove.result c.requires ∙ ap Some (sym c.remove.ensures.value))
    (nodes_with d v ∙ c.remove.ensures.items) (with_nodes_own d v)

pub returns-clause-data : goal.returns-clause-data
returns-clause-data c =
    let d = c.args.self.now in
    let v = c.remove.new.self in
    taken_says c.args.index d (with_nodes d v) (nodes_with d v ∙ c.remove.ensures.items)

pub returns-clause-reads : goal.returns-clause-reads
returns-clause-reads c =
    let d = c.args.self.now in
    let v = c.remove.new.self in
    let e = with_nodes d v in
    taken_reads c.args.index c.remove.result d e (slice_get-get_or (nodes_of d) c.args.index c.remove.result c.requires ∙ ap Some (sym c.remove.ensures.value))
    (nodes_with d v ∙ c.remove.ensures.items) (with_nodes_own d v) (span_kept d e (with_nodes_own d v))
