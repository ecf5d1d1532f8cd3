use Rattle.std.proofs.Common.{◌++◌, ap, sym, ◌∙◌, rules}
use Rattle.std.specs.Char.{IsScalar}
use Rattle.std.specs.Str.{chars}
use Rattle.std.specs.Prelude.{encode_utf8}
use Rattle.std.proofs.lemmas.List.{append-nil}
use Rattle.std.proofs.lemmas.Result.{on_ok_weaker}
use Rattle.std.proofs.lemmas.Str.{IsUtf8-encode, IsUtf8-string_bytes, chars-nil, chars_past_char}
use Rattle.std.specs.Prelude.{string_bytes}
use Rattle.kdl_report.proofs.Appended.{appended}
use Rattle.std.proofs.Common.{◌≡◌, [], ◌∷◌}
use Rattle.kdl_report.proofs.shown.put_char.Goals as goal

pub returns : goal.returns
returns c =
    let scalar : IsScalar c.args.c = search rules in
    let one : chars (encode_utf8 c.args.c) ≡ c.args.c ∷ [] =
    chars_past_char (encode_utf8 c.args.c) [] c.args.c (IsUtf8-encode c.args.c scalar) (sym (append-nil (encode_utf8 c.args.c))) ∙ ap (λ z. c.args.c ∷ z) chars-nil in
    on_ok_weaker c.push.result (λ e. e ∙ ap (λ z. chars (string_bytes c.args.out.now) ++ z) one) (appended _ _ _ _ (IsUtf8-string_bytes c.args.out.now) c.push.ensures.bytes)
