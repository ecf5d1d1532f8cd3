use Rattle.std.proofs.Common.{◌≡◌, ◌+◌, ◌++◌, length, sym, ap, ◌∙◌, length-append}
use Rattle.std.proofs.lemmas.Str.{chars_past_char, chars-nil, length-encode}
use Rattle.std.proofs.lemmas.List.{nil_from_length}
use Rattle.std.specs.Str.{chars}
use Rattle.std.specs.Prelude.{encode_utf8}
use Rattle.kdl_text.proofs.Looking.Texts.{bytes-chars}
use Rattle.kdl_text.proofs.chars.split_first.Goals as goal

pub returns-in-Some-clause-parts : goal.returns-in-Some-clause-parts
returns-in-Some-clause-parts c =
    let first = c.in-Some.c in
    let rest = c.as_str.result.now in
    let e : c.args.text.now ≡ encode_utf8 first ++ rest =
    sym c.chars-chars.ensures.rest ∙ c.in-Some.ensures.steps.0 ∙ ap (λ t. encode_utf8 first ++ t) (sym c.as_str.ensures) in
    (chars_past_char _ rest first c.utf8.text e, ap length e ∙ length-append (encode_utf8 first) rest ∙ ap (λ n. n + length rest) (length-encode first))

pub returns-in-None-clause-parts : goal.returns-in-None-clause-parts
returns-in-None-clause-parts c =
    ap chars (sym c.chars-chars.ensures.rest ∙ nil_from_length _ c.in-None.ensures.steps.0.0) ∙ chars-nil

pub returns-in-Some-clause-len : goal.returns-in-Some-clause-len
returns-in-Some-clause-len c = bytes-chars _ c.utf8.text

pub returns-in-None-clause-len : goal.returns-in-None-clause-len
returns-in-None-clause-len c = bytes-chars _ c.utf8.text
