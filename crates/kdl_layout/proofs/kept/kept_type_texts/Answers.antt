use Rattle.kdl_layout.proofs.Common.{sym, ◌∙◌, node_texts}
use Rattle.kdl_layout.proofs.kept.kept_type_texts.Goals as goal
use Rattle.kdl_layout.proofs.Respelling.Kept.{nothing_around, types_kept}

pub returns-in_default : goal.returns-in_default
returns-in_default c =
    types_kept _ _ _ (node_texts c.args.format.now) _ (sym c.keeps_texts.ensures ∙ c.if-not-keeps_texts.false) c.if-layout.false c.if-not-has_type.false
    (rw (c.in_default.is, c.no_text.ensures, c.no_text-in_default.ensures, c.no_text-in_default-2.ensures) nothing_around)

pub returns : goal.returns
returns c =
    types_kept _ _ _ (node_texts c.args.format.now) _ (sym c.keeps_texts.ensures ∙ c.if-not-keeps_texts.false) c.if-layout.false c.if-not-has_type.false
    (rw c.in-Some.is (record {
      before_name = rw c.as_str.ensures.value at c.in_ok-before_name.ensures;
      after_name = rw c.as_str-2.ensures.value at c.in_ok-after_name.ensures;
      after = rw c.as_str-3.ensures.value at c.in_ok-after.ensures;
    }))
