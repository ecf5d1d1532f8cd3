use Rattle.kdl_laws.proofs.Common.{◌≡◌, List, inl, inr, ap, chars, refl, sym, true, ℕ, ◌∙◌, bytes_eq-Decides, encodes-chars, encode_utf8_all, EndsLine}
use Rattle.std.proofs.Common.{codes}
use Rattle.std.proofs.lemmas.Str.{chars-encodes}
use Rattle.std.specs.Str.{IsUtf8}
use Rattle.kdl_laws.proofs.reading_back.is_line_end.Goals as goal

semicolon : chars (codes ";") ≡ codes ";"
unfolding lib.Utf8.encode
semicolon = chars-encodes (codes ";") refl

newline : chars (codes "\n") ≡ codes "\n"
unfolding lib.Utf8.encode
newline = chars-encodes (codes "\n") refl

-- the bytes of a text that is one `;`, or one newline
semicolon_bytes : (bs : List ℕ) → IsUtf8 bs → chars bs ≡ codes ";" → bs ≡ codes ";"
unfolding lib.Utf8.encode
semicolon_bytes bs u e = sym (encodes-chars bs u) ∙ ap encode_utf8_all e

newline_bytes : (bs : List ℕ) → IsUtf8 bs → chars bs ≡ codes "\n" → bs ≡ codes "\n"
unfolding lib.Utf8.encode
newline_bytes bs u e = sym (encodes-chars bs u) ∙ ap encode_utf8_all e

pub returns-then-eq : goal.returns-then-eq
returns-then-eq c = (λ h. inl (ap chars ((bytes_eq-Decides c.args.text.now (codes ";")).0 (sym c.eq.ensures ∙ h)) ∙ semicolon), λ e. c.if-eq.true)

pub returns-else-eq : goal.returns-else-eq
returns-else-eq c = (λ h. inr (ap chars ((bytes_eq-Decides c.args.text.now (codes "\n")).0 (sym c.eq-else-eq.ensures ∙ h)) ∙ newline), back)
  where
    back : EndsLine (chars c.args.text.now) → c.eq-else-eq.result ≡ true
    back (inl e) = let same : c.eq.result ≡ true = c.eq.ensures ∙ (bytes_eq-Decides c.args.text.now (codes ";")).1 (semicolon_bytes c.args.text.now c.utf8.text e) in absurd (cc)
    back (inr e) = c.eq-else-eq.ensures ∙ (bytes_eq-Decides c.args.text.now (codes "\n")).1 (newline_bytes c.args.text.now c.utf8.text e)
