-- What the order means, on trees.
use Rattle.std.proofs.Common.{◌≡◌, ◌↔◌, Bool, ap, sym, ◌∙◌, refl, String, string_bytes, Global}
use Rattle.std.proofs.lemmas.Str.{IsUtf8-string_bytes, encodes-chars}
use Rattle.std.specs.Bool.{Decides}
use Rattle.std.specs.Cmp.{IsTotalOrder, Equal-is}
use Rattle.std.specs.Cmp.Lexicographic.{slice_cmp}
use Rattle.std.specs.Ordering.{nat_cmp, is_eq}
use Rattle.std.specs.String.{string_cmp}
use Rattle.std.specs.Str.{encode_utf8_all}
use Rattle.std.specs.declared.cmp.Ordering.{Ordering}
use Rattle.std.specs.declared.cmp.Ordering.TheVariants.{Equal}
use Rattle.kdl_value.specs.Order.{text_order, value_order}
use Rattle.kdl_value.specs.Tree.{text_of, float_text_of, value_tree}
use Rattle.kdl_value.specs.declared.float.KdlFloat.{KdlFloat}
use Rattle.kdl_value.specs.declared.value.KdlValue.{KdlValue}
use Rattle.kdl_value.specs.declared.value.KdlValue.TheVariants.{String as StringValue, Integer, Float as FloatValue, Bool as BoolValue, Null}
use Rattle.kdl_value.specs.contracts.float.KdlFloatOrd.TheImpl as float_impl
use Rattle.kdl_value.specs.contracts.value.KdlValueOrd.TheImpl as value_impl
use Rattle.kdl_value.proofs.Comparing.Equality.{value_decides, float_decides}

encoded : (s : String Global) → string_bytes s ≡ encode_utf8_all (text_of s)
encoded s = sym (encodes-chars _ (IsUtf8-string_bytes s))

-- texts in memory are ordered by their bytes
string_ordered : (s t : String Global) → string_cmp s t ≡ text_order (text_of s) (text_of t)
string_ordered s t = ap (λ x. slice_cmp nat_cmp x (string_bytes t)) (encoded s) ∙ ap (slice_cmp nat_cmp (encode_utf8_all (text_of s))) (encoded t)

pub float_ordered : (f g : KdlFloat) → float_impl.ghosts.cmp f g ≡ text_order (float_text_of f) (float_text_of g)
float_ordered f g = string_ordered f.text g.text

pub value_ordered : (v w : KdlValue) → value_impl.ghosts.cmp v w ≡ value_order (value_tree v) (value_tree w)
value_ordered (StringValue s) (StringValue t) = string_ordered s t
value_ordered (FloatValue f) (FloatValue g) = float_ordered f g
value_ordered (Integer y) (Integer z) = refl
value_ordered (BoolValue a) (BoolValue b) = refl
value_ordered Null (StringValue s) = refl
value_ordered Null (Integer z) = refl
value_ordered Null (FloatValue f) = refl
value_ordered Null (BoolValue b) = refl
value_ordered Null Null = refl
value_ordered _ _ = refl

ties : {P : Type 0} (b : Bool) (o r : Ordering) → o ≡ r → b ≡ is_eq r → Decides b P → (o ≡ Equal) ↔ P
ties b o r e m d = (λ h. d.0 (m ∙ (Equal-is r).1 (sym e ∙ h)), λ p. e ∙ (Equal-is r).0 (sym m ∙ d.1 p))

-- the order finds equal what `==` does
pub float_ties : (f g : KdlFloat) (o : Ordering) → o ≡ float_impl.ghosts.cmp f g → (o ≡ Equal) ↔ (float_text_of f ≡ float_text_of g)
float_ties f g o e = ties _ o _ e (float_impl.Laws.matches_eq-law f g) (float_decides f g)

pub value_ties : (v w : KdlValue) (o : Ordering) → o ≡ value_impl.ghosts.cmp v w → (o ≡ Equal) ↔ (value_tree v ≡ value_tree w)
value_ties v w o e = ties _ o _ e (value_impl.Laws.matches_eq-law v w) (value_decides v w)

pub value_total : IsTotalOrder value_impl.ghosts.cmp
value_total = value_impl.Laws.total-law
