use Rattle.kdl.proofs.Common.{◌+◌, ◌++◌, ap, arith, inr, is_some, subst, chars, Text, node_format_tree, EndFewest, PlaceFewest, PlaceSays, block_if, terminator_text}
use Rattle.kdl.proofs.Putting.Fewest.{ended_before, open_before}
use Rattle.kdl.proofs.Putting.PutReads.{both_empty, open_read, says_as, terminator_read}
use Rattle.kdl.proofs.ends.newlines.Goals as goal

pub returns-then-has_end-clause-reads : goal.returns-then-has_end-clause-reads
returns-then-has_end-clause-reads c =
    terminator_read c.args.rest (block_if (is_some c.args.children.now)) (node_format_tree c.args.format.now) c.in_ok-end.end c.if-has_end.ensures
    (says_as (chars c.deref.result.now) (chars c.deref-then-has_end.result.now) _ _ c.in_ok-end.end (ap chars c.deref.ensures) (ap chars c.deref-then-has_end.ensures) c.in_ok-end.ensures.says)

pub returns-then-has_end-clause-fewest : goal.returns-then-has_end-clause-fewest
returns-then-has_end-clause-fewest c =
    let n = c.in_ok-end.end in
    let f = node_format_tree c.args.format.now in
    let less : EndFewest (terminator_text f) n = subst (λ (t : Text). EndFewest (t ++ f.trailing) n) (ap chars c.deref.ensures)
    (subst (λ (t : Text). EndFewest (chars c.deref.result.now ++ t) n) (ap chars c.deref-then-has_end.ensures) c.in_ok-end.ensures.fewest) in
    ended_before c.args.rest (block_if (is_some c.args.children.now)) f (0 + n) n (omega arith) c.if-has_end.ensures less

pub returns : goal.returns
returns c =
    let f = node_format_tree c.args.format.now in
    let k = block_if (is_some c.args.children.now) in
    let place = c.in_ok-before.ensures in
    let few = place.few in
    let own = c.terminator_newlines.ensures in
    let least = own.few in
    record {
      lacks = record { few = omega arith; joins = inr (both_empty _ _ c.if-has_end.ensures) };
      reads = open_read c.args.rest k f c.in_ok-before.before c.terminator_newlines.result own.is (subst (λ (t : Text). PlaceSays k t c.in_ok-before.before) (ap chars c.deref-2.ensures) place.says) c.if-has_end.ensures;
      fewest = open_before c.args.rest k f c.in_ok-before.before c.terminator_newlines.result own.is c.if-has_end.ensures few (subst (λ (t : Text). PlaceFewest k t c.in_ok-before.before) (ap chars c.deref-2.ensures) place.fewest);
    }
