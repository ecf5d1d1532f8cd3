-- What `==` of formats means, on their trees.
use Rattle.kdl_parts.proofs.Common.{◌≡◌, ap, node_format_tree}
use Rattle.std.proofs.lemmas.Bool.Decides.{Decides-and, Decides-like}
use Rattle.std.specs.Bool.{Decides}
use Rattle.kdl_value.proofs.Comparing.Equality.{text_decides}
use Rattle.kdl_parts.specs.Formats.{document_format_tree}
use Rattle.kdl_parts.specs.contracts.format.KdlDocumentFormatPartialEq.TheImpl as document_format_impl
use Rattle.kdl_parts.specs.contracts.format.KdlNodeFormatPartialEq.TheImpl as node_format_impl
use Rattle.kdl_parts.specs.declared.format.KdlDocumentFormat.{KdlDocumentFormat}
use Rattle.kdl_parts.specs.declared.format.KdlNodeFormat.{KdlNodeFormat}

-- formats are equal exactly where all their texts are
pub node_format_decides : (f g : KdlNodeFormat) → Decides (node_format_impl.ghosts.eq f g) (node_format_tree f ≡ node_format_tree g)
node_format_decides f g =
    let ends = Decides-and _ _ (text_decides f.terminator g.terminator) (text_decides f.trailing g.trailing) in
    let following = Decides-and _ _ (text_decides f.before_children g.before_children) (Decides-and _ _ (text_decides f.before_terminator g.before_terminator) ends) in
    let types = Decides-and _ _ (text_decides f.after_ty_name g.after_ty_name) (Decides-and _ _ (text_decides f.after_ty g.after_ty) following) in
    let all = Decides-and _ _ (text_decides f.leading g.leading) (Decides-and _ _ (text_decides f.before_ty_name g.before_ty_name) types) in
    Decides-like _ (λ (leading, (before, (inside, (after, (block, (end, (terminator, trailing))))))). cc)
    (λ e. (
      ap (λ x. x.leading) e,
      (
        ap (λ x. x.before_ty_name) e,
        (
          ap (λ x. x.after_ty_name) e,
          (
            ap (λ x. x.after_ty) e,
            (ap (λ x. x.before_children) e, (ap (λ x. x.before_terminator) e, (ap (λ x. x.terminator) e, ap (λ x. x.trailing) e))),
          ),
        ),
      ),
    ))
    all

pub document_format_decides : (f g : KdlDocumentFormat) → Decides (document_format_impl.ghosts.eq f g) (document_format_tree f ≡ document_format_tree g)
document_format_decides f g =
    Decides-like _ (λ (leading, trailing). cc) (λ e. (ap (λ x. x.leading) e, ap (λ x. x.trailing) e))
    (Decides-and _ _ (text_decides f.leading g.leading) (text_decides f.trailing g.trailing))
