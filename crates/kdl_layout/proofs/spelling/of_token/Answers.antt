use Rattle.kdl_layout.proofs.Common.{Global, String, subst, sym, text_of, value_tree, KdlValue, IsSpelling}
use Rattle.kdl_value.specs.Data as data'
use Rattle.kdl_layout.proofs.Respelling.Spellings.{cut_spelling, cut_string, cut_value, no_end, other_kind}
use Rattle.kdl_layout.proofs.spelling.of_token.Goals as goal

pub returns-then-not-is_end : goal.returns-then-not-is_end
returns-then-not-is_end c = λ s k v d. no_end c.is_end.result _ c.if-not-is_end.true c.is_end.ensures.1 (cut_spelling k d).0

pub returns-in-String : goal.returns-in-String
returns-in-String c = λ s k.
    subst (λ (z : String Global). IsSpelling (data'.text (text_of z)) s) (sym c.in-String.text-is) (cut_string s _ _ (rw c.in-String.is at k) (c.is_end.ensures.0 c.if-not-is_end.false))

pub returns-in-Value : goal.returns-in-Value
returns-in-Value c = λ s k.
    subst (λ (z : KdlValue). IsSpelling (value_tree z) s) (sym c.in-Value.value-is) (cut_value s _ _ (rw c.in-Value.is at k) (c.is_end.ensures.0 c.if-not-is_end.false))

pub returns-in_default : goal.returns-in_default
returns-in_default c = λ s k v d. other_kind c.args.token.kind (cut_spelling k d).1 c.in_default.not-String c.in_default.not-Value
