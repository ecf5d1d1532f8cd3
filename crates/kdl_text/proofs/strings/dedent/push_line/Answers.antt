use Rattle.std.proofs.Common.{◌++◌, refl, sym, ap, ◌∙◌, string_bytes}
use Rattle.std.proofs.lemmas.Str.{IsUtf8-string_bytes, chars-append}
use Rattle.std.specs.Str.{chars}
use Rattle.kdl_text.specs.Dedent.{dedented, line_text}
use Rattle.kdl_text.proofs.strings.dedent.push_line.Goals as goal

pub returns-clause-done : goal.returns-clause-done
returns-clause-done c us s =
    let (m, line, text) = c.in-Some.ensures us s in
    let put = ap chars c.in_ok-push_str.ensures.bytes ∙ chars-append (string_bytes c.args.out.now) c.in-Some.rest.now (IsUtf8-string_bytes c.args.out.now) in
    (line_text m, dedented m (sym (c.is_blank.ensures us s) ∙ c.if-is_blank.false) line refl, put ∙ ap (λ z. chars (string_bytes c.args.out.now) ++ z) text)
