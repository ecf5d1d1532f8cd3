use Rattle.kdl.proofs.Common.{rules, ◌≡◌, Option, None, Some, IfNone, IfSome, unwrap_or, refl, ap, ◌∙◌, new_document, block_of, document_tree, KdlDocument}
use Rattle.kdl.proofs.PiecesExchanged.{ensured_exchanges}
use Rattle.kdl.proofs.node.KdlNode.ensure_children.Goals as goal

found : (o : Option KdlDocument) (r d : KdlDocument) → r ≡ unwrap_or o d → IfSome o (λ x. r ≡ x)
found None r d h = tt
found (Some x) r d h = h

made : (o : Option KdlDocument) (r d : KdlDocument) → r ≡ unwrap_or o d → document_tree d ≡ new_document → IfNone o (document_tree r ≡ new_document)
made None r d h k = ap document_tree h ∙ k
made (Some x) r d h k = tt

pub returns : goal.returns
returns c = (
  search rules,
  record {
    writes_back = tt;
    found = found (block_of c.args.self.now) _ _ c.get_or_insert.ensures.value;
    made = made (block_of c.args.self.now) _ _ c.get_or_insert.ensures.value c.new.ensures.made;
    bytes = ensured_exchanges c.args.self.now (block_of c.args.self.now) _ _ refl c.get_or_insert.ensures.value;
  },
)
