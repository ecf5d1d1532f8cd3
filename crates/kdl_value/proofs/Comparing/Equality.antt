-- What `==` of values means, on trees.
use mathlib.Core.Bool.{beq}
use Rattle.std.proofs.Common.{◌≡◌, Bool, true, false, String, string_bytes, ap, sym, ◌∙◌, refl, Global}
use Rattle.std.proofs.lemmas.Slice.Eq.{bytes_eq-Decides}
use Rattle.std.proofs.lemmas.Str.{IsUtf8-string_bytes, encodes-chars}
use Rattle.std.specs.Bool.{Decides}
use Rattle.std.specs.Str.{chars, encode_utf8_all}
use Rattle.std.specs.String.{string_eq}
use Rattle.std.proofs.lemmas.Bool.Decides.{Decides-like, Decides-int_eq}
use Rattle.kdl_value.specs.Tree.{text_of, float_text_of, value_tree}
use Rattle.kdl_value.specs.declared.float.KdlFloat.{KdlFloat}
use Rattle.kdl_value.specs.declared.value.KdlValue.{KdlValue}
use Rattle.kdl_value.specs.declared.value.KdlValue.TheVariants.{String as StringValue, Integer, Float as FloatValue, Bool as BoolValue, Null}
use Rattle.kdl_value.specs.contracts.float.KdlFloatPartialEq.TheImpl as float_impl
use Rattle.kdl_value.specs.contracts.value.KdlValuePartialEq.TheImpl as value_impl

pub same_bytes : (s t : String Global) → text_of s ≡ text_of t → string_bytes s ≡ string_bytes t
same_bytes s t e = sym (encodes-chars _ (IsUtf8-string_bytes s)) ∙ ap encode_utf8_all e ∙ encodes-chars _ (IsUtf8-string_bytes t)

-- texts in memory are equal exactly where their characters are
pub text_decides : (s t : String Global) → Decides (string_eq s t) (text_of s ≡ text_of t)
text_decides s t =
    let d = bytes_eq-Decides (string_bytes s) (string_bytes t) in
    (λ e. ap chars (d.0 e), λ e. d.1 (same_bytes s t e))

-- floats are equal exactly where their texts are
pub float_decides : (f g : KdlFloat) → Decides (float_impl.ghosts.eq f g) (float_text_of f ≡ float_text_of g)
float_decides f g = text_decides f.text g.text

-- booleans
pub truth_decides : (a b : Bool) → Decides (beq a b) (a ≡ b)
truth_decides true true = (λ e. refl, λ e. refl)
truth_decides true false = (λ e. cc, λ e. cc)
truth_decides false true = (λ e. cc, λ e. cc)
truth_decides false false = (λ e. refl, λ e. refl)

-- values are equal exactly where they are of one kind and say the same
pub value_decides : (v w : KdlValue) → Decides (value_impl.ghosts.eq v w) (value_tree v ≡ value_tree w)
value_decides (StringValue s) (StringValue t) = Decides-like _ (λ e. cc) (λ e. cc) (text_decides s t)
value_decides (Integer y) (Integer z) = Decides-like _ (λ e. cc) (λ e. cc) (Decides-int_eq y z)
value_decides (FloatValue f) (FloatValue g) = Decides-like _ (λ e. cc) (λ e. cc) (float_decides f g)
value_decides (BoolValue a) (BoolValue b) = Decides-like _ (λ e. cc) (λ e. cc) (truth_decides a b)
value_decides Null Null = (λ e. refl, λ e. refl)
value_decides _ _ = (λ e. cc, λ e. cc)
