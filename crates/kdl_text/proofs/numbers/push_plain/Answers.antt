use Rattle.std.proofs.Common.{◌++◌, ◌∷◌, [], ap, sym, ◌∙◌, append_assoc, string_bytes}
use Rattle.std.specs.Str.{chars}
use Rattle.std.proofs.lemmas.Str.{IsUtf8-string_bytes}
use Rattle.kdl_text.specs.Numbers.{plain}
use Rattle.kdl_text.proofs.Numeric.DecimalReads.{plain_drops, plain_keeps}
use Rattle.kdl_text.proofs.Quoted.EscapeReads.{char_pushed}
use Rattle.kdl_text.proofs.numbers.push_plain.Goals as goal

pub chars-preserved-then-c-eq95 : goal.chars-preserved-then-c-eq95
chars-preserved-then-c-eq95 c =
    let here = ap plain c.in-Some.ensures.parts.0 ∙ plain_drops c.in-Some.c (chars c.in-Some.following.now) c.if-c-eq95.true in
    (c.in-Some.ensures.text, ap (λ z. chars (string_bytes c.chars.out) ++ z) (sym here) ∙ c.chars.invariant.1)

pub chars-preserved : goal.chars-preserved
chars-preserved c =
    let out = string_bytes c.chars.out in
    let rest = plain (chars c.in-Some.following.now) in
    let here = ap plain c.in-Some.ensures.parts.0 ∙ plain_keeps c.in-Some.c (chars c.in-Some.following.now) c.if-c-eq95.false in
    let pushed = char_pushed out (string_bytes c.push.new.self) c.in-Some.c (IsUtf8-string_bytes c.chars.out) (IsUtf8-string_bytes c.push.new.self) c.in_ok-push.ensures.bytes in
    (c.in-Some.ensures.text, ap (λ z. z ++ rest) pushed ∙ append_assoc (chars out) (c.in-Some.c ∷ []) rest ∙ ap (λ z. chars out ++ z) (sym here) ∙ c.chars.invariant.1)
