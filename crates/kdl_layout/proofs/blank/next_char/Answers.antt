use Rattle.kdl_layout.proofs.Common.{◌≡◌, ◌++◌, sym, ap, ◌∙◌, chars_past_char, chars-nil, chars}
use Rattle.std.proofs.lemmas.List.{nil_from_length}
use Rattle.std.specs.Prelude.{encode_utf8}
use Rattle.kdl_layout.proofs.blank.next_char.Goals as goal

pub returns-in-Some : goal.returns-in-Some
returns-in-Some c =
    let first = c.in-Some.c in
    let rest = c.as_str.result.now in
    let e : c.args.text.now ≡ encode_utf8 first ++ rest =
    sym c.chars-chars.ensures.rest ∙ c.in-Some.ensures.steps.0 ∙ ap (λ t. encode_utf8 first ++ t) (sym c.as_str.ensures) in
    chars_past_char _ rest first c.utf8.text e

pub returns-in-None : goal.returns-in-None
returns-in-None c = ap chars (sym c.chars-chars.ensures.rest ∙ nil_from_length _ c.in-None.ensures.steps.0.0) ∙ chars-nil
