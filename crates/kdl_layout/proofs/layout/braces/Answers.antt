use Rattle.kdl_layout.proofs.Common.{◌∷◌, ◌++◌, [], Some, Option, ap, sym, ◌∙◌, chars, Text, DocumentFormat, document_format_tree, or_empty_document, content_of, block_of}
use Rattle.std.specs.Prelude.{is_none}
use Rattle.kdl_layout.proofs.Texts.{newline_text, braces_made}
use Rattle.kdl_layout.proofs.Keeping.Blocks.{empty_block_is, empty_texts, other_texts}
use Rattle.kdl_layout.proofs.layout.braces.Goals as goal

pub returns-then-is_empty_block : goal.returns-then-is_empty_block
returns-then-is_empty_block c = λ level ns i b n p.
    let (before, following, k, e) = c.in_ok-texts.ensures ns n p in
    let compact = c.args.layout.now.compact_empty in
    let texts = c.in_ok-texts.texts in
    let leading = ap (λ (o : Option DocumentFormat). (or_empty_document o).leading) e in
    let trailing = ap (λ (o : Option DocumentFormat). (or_empty_document o).trailing) e in
    let empty = sym (empty_block_is compact (is_none c.args.last) texts.leading texts.trailing ns before following n leading trailing) ∙ sym c.is_empty_block.ensures ∙ c.if-is_empty_block.true in
    (before, following, rw i at k, e ∙ ap Some (empty_texts compact (chars c.args.margin.now) ns before following empty ∙ ap (λ (t : Text). block_of compact t ns before following) b))

pub returns : goal.returns
returns c = λ level ns i b n p.
    let (before, following, k, e) = c.in_ok-texts.ensures ns n p in
    let compact = c.args.layout.now.compact_empty in
    let texts = c.in_ok-texts.texts in
    let leading = ap (λ (o : Option DocumentFormat). (or_empty_document o).leading) e in
    let trailing = ap (λ (o : Option DocumentFormat). (or_empty_document o).trailing) e in
    let other = sym (empty_block_is compact (is_none c.args.last) texts.leading texts.trailing ns before following n leading trailing) ∙ sym c.is_empty_block.ensures ∙ c.if-is_empty_block.false in
    let leads = c.in_ok-push_text-2.ensures
    ∙ ap (λ (t : Text). t ++ chars c.as_str.result.now) (c.in_ok-push_text.ensures ∙ ap (λ (t : Text). t ++ chars (10 ∷ [])) c.no_text-leading.ensures ∙ newline_text)
    ∙ ap (λ (t : Text). 10 ∷ t) (ap chars c.as_str.ensures.value) in (
      before,
      following,
      rw i at k,
      ap Some (
          braces_made c.push_text-2.new.out c.push_text-3.new.out (document_format_tree texts) (content_of compact ns before following) (chars c.args.margin.now) leads c.in_ok-push_text-3.ensures e
          ∙ other_texts compact (chars c.args.margin.now) ns before following other ∙ ap (λ (t : Text). block_of compact t ns before following) b
          ),
    )
