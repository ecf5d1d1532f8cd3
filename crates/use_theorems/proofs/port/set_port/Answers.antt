use Rattle.std.proofs.Common.{◌≡◌, IsSome, Some, chars, codes, pos, rules, subst, sym}
use Rattle.kdl.specs.Words.{IsExchanged, IsSetInData, Nodes, Text, Value, document_prints, document_says, integer, plain_entry, plain_identifier, print_piece, said_node, value_tree}
use Rattle.kdl_laws.specs.ClientWords.{IsPieceOf, said_entry_in}
use Rattle.use_theorems.proofs.port.set_port.Goals as goal

pub returns-clause-document : goal.returns-clause-document
returns-clause-document c =
    (document_says c.set_in.new.document, c.printed_reads_back.ensures c.set_in.new.document c.in_ok-to_string.field-0 c.in_ok-to_string.ensures.ok c.in_ok-set_in.ensures.reads)

pub returns-clause-sets : goal.returns-clause-sets
returns-clause-sets c x y d e has =
    let s = chars (codes "server") in
    let r = chars (codes "port") in
    let new = c.set_in.new.document in
    let value : value_tree c.from.result ≡ integer (pos 8080) = search rules in
    let same = c.in_ok-document.ensures.only x d in
    let once = c.printed_reads_once.ensures.once new c.in_ok-to_string.field-0 y c.in_ok-to_string.ensures.ok c.in_ok-set_in.ensures.reads e in
    let set = c.in_ok-set_in.ensures.sets (subst (λ (z : Nodes). IsSome (said_node s z)) same has) in
    let is = subst (λ (v : Value). IsSetInData s r v (document_says c.in_ok-document.document) (document_says new)) value set in
    subst (λ (z : Nodes). IsSetInData s r (integer (pos 8080)) x z) (sym once)
    (subst (λ (z : Nodes). IsSetInData s r (integer (pos 8080)) z (document_says new)) (sym same) is)

pub returns-clause-bytes : goal.returns-clause-bytes
returns-clause-bytes c x d has =
    let s = chars (codes "server") in
    let r = chars (codes "port") in
    let new = c.set_in.new.document in
    let value : value_tree c.from.result ≡ integer (pos 8080) = search rules in
    let same = c.in_ok-document.ensures.only x d in
    let (p, old, e) = c.in_ok-set_in.ensures.bytes (subst (λ (z : Nodes). IsSome (said_node s z)) same has) in
    let text = c.printed_reads_once.ensures.text new c.in_ok-to_string.field-0 c.in_ok-to_string.ensures.ok in
    let is = subst (λ (v : Value). IsExchanged p (print_piece (plain_entry (Some (plain_identifier r)) v)) (document_prints c.in_ok-document.document) (document_prints new)) value e in
    let piece = print_piece (plain_entry (Some (plain_identifier r)) (integer (pos 8080))) in (
      p,
      subst (λ (z : Nodes). IsPieceOf (said_entry_in s r z) p) (sym same) old,
      subst (λ (t : Text). IsExchanged p piece (chars c.args.text.now) t) (sym text)
          (subst (λ (t : Text). IsExchanged p piece t (document_prints new)) c.in_ok-document.ensures.prints is),
    )
