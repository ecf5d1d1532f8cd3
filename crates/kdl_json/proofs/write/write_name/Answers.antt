-- A key and an identifier.
use Rattle.std.proofs.Common.{◌≡◌, ℕ, List, ◌∷◌, sym, subst, ap, ◌∙◌}
use Rattle.std.specs.Str.{encode_utf8_all}
use Rattle.std.proofs.lemmas.Str.{encodes-chars}
use Rattle.json.specs.Token.{key, string}
use Rattle.kdl_entry.specs.Tree.{identifier_tree}
use Rattle.kdl_json.specs.Writing.{Appends}
use Rattle.kdl_json.proofs.write.write_name.Goals as goal

pub returns : goal.returns
returns c =
    let e : c.value.result.now ≡ encode_utf8_all (identifier_tree c.args.name.now).value = sym (encodes-chars c.value.result.now c.value.utf8) ∙ ap encode_utf8_all c.value.ensures in
    subst (λ (u : List ℕ). Appends c.write_member.result c.args.out.now c.write_member.new.out (λ ts. key c.args.key.now ∷ string u ∷ ts)) e c.write_member.ensures
