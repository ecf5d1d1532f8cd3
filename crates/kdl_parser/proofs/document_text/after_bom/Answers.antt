use Rattle.std.proofs.Common.{ℕ, List, ◌++◌, ap, ◌∙◌}
use Rattle.std.proofs.lemmas.Str.{IsUtf8-string_bytes, chars_past_char}
use Rattle.std.specs.Char.{encode_utf8}
use Rattle.std.specs.Prelude.{string_bytes}
use Rattle.kdl_parser.proofs.document_text.after_bom.Goals as goal

pub returns : goal.returns
returns c =
    let bom = c.in_ok-push.ensures.bytes ∙ ap (λ (z : List ℕ). z ++ encode_utf8 0xFEFF) c.new-whole.ensures.bytes in
    chars_past_char (string_bytes c.push_str.new.self) c.args.text.now 0xFEFF (IsUtf8-string_bytes c.push_str.new.self) (c.in_ok-push_str.ensures.bytes ∙ ap (λ (z : List ℕ). z ++ c.args.text.now) bom)
