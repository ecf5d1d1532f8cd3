-- The tokens of a value.
use Rattle.std.proofs.Common.{◌≡◌, ℕ, List, ◌∷◌, rules, sym, subst, ap, ◌∙◌}
use Rattle.std.specs.Prelude.{string_bytes}
use Rattle.std.specs.Str.{encode_utf8_all}
use Rattle.std.proofs.lemmas.Str.{IsUtf8-string_bytes, encodes-chars}
use Rattle.json.specs.Token.{string}
use Rattle.kdl_value.specs.Tree.{float_text_of, text_of, value_tree}
use Rattle.kdl_value.specs.declared.value.KdlValue.{KdlValue}
use Rattle.kdl_json.specs.Form.{float_tokens, is_json_number, value_tokens}
use Rattle.kdl_json.specs.Writing.{Appends}
use Rattle.kdl_json.proofs.Appending.{wrote}
use Rattle.kdl_json.proofs.Numbers.{IsNumber-written}
use Rattle.kdl_json.proofs.write.write_value.Goals as goal

pub number-requires : goal.number-requires
number-requires c = rw c.format.ensures.text (IsNumber-written _ (search rules))

pub returns-in-String : goal.returns-in-String
returns-in-String c =
    let s = c.in-String.text in
    let e : c.as_str.result.now ≡ encode_utf8_all (text_of s) = c.as_str.ensures.value ∙ sym (encodes-chars (string_bytes s) (IsUtf8-string_bytes s)) in
    subst (λ (v : KdlValue). Appends c.string.result c.args.out.now c.string.new.self (value_tokens (value_tree v))) (sym c.in-String.is)
    (subst (λ (u : List ℕ). Appends c.string.result c.args.out.now c.string.new.self (λ ts. string u ∷ ts)) e (wrote _ _ _ _ c.string.ensures))

pub returns-in-Float : goal.returns-in-Float
returns-in-Float c =
    let t = c.as_str-in-Float in
    let e : t.result.now ≡ encode_utf8_all (float_text_of c.in-Float.float) = sym (encodes-chars t.result.now t.utf8) ∙ ap encode_utf8_all t.ensures in
    subst (λ (v : KdlValue). Appends c.write_float.result c.args.out.now c.write_float.new.out (value_tokens (value_tree v))) (sym c.in-Float.is)
    (subst (λ (u : List ℕ). Appends c.write_float.result c.args.out.now c.write_float.new.out (float_tokens u (is_json_number u))) e c.write_float.ensures)
