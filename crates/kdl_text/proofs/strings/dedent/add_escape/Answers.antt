use Rattle.std.proofs.Common.{◌≡◌, ℕ, ◌++◌, ◌∷◌, [], refl, sym, ap, ◌∙◌, append_assoc, string_bytes}
use Rattle.std.proofs.lemmas.Str.{IsUtf8-string_bytes, chars-append}
use Rattle.std.specs.Prelude.{Option, Some, None}
use Rattle.std.specs.Str.{chars}
use Rattle.kdl_text.proofs.ManyLines.LineUnits.{spells_escape, spells_after, spells_plain}
use Rattle.kdl_text.proofs.Quoted.EscapeReads.{char_pushed}
use Rattle.kdl_text.proofs.strings.dedent.add_escape.Goals as goal

is_none : (o : Option ℕ) → ((c : ℕ) → o ≡ Some c → ⊥) → o ≡ None
is_none None h = refl
is_none (Some c) h = absurd (h c refl)

pub returns-then-is_literal : goal.returns-then-is_literal
returns-then-is_literal c us s =
    let text = IsUtf8-string_bytes c.args.text.now in
    let new = IsUtf8-string_bytes c.push_str.new.self in
    let put = ap chars c.in_ok-push_str.ensures.bytes ∙ chars-append (string_bytes c.args.text.now) c.args.after.now text in
    rw (is_none _ c.in_default.not-Some, c.len-then-is_literal.ensures ∙ c.push_str.new.self.bytes.ok.0) (spells_plain _ _ us text s _ (chars c.args.after.now) new (c.if-is_literal.true ∙ c.len.ensures ∙ c.args.text.now.bytes.ok.0) put)

pub returns-else-is_literal : goal.returns-else-is_literal
returns-else-is_literal c us s =
    let text = IsUtf8-string_bytes c.args.text.now in
    let put = ap chars c.in_ok-push_str.ensures.bytes ∙ chars-append (string_bytes c.args.text.now) c.args.after.now text in
    rw (is_none _ c.in_default.not-Some) (spells_after _ _ us text s _ (chars c.args.after.now) (λ e. c.if-is_literal.false (e ∙ sym (c.len.ensures ∙ c.args.text.now.bytes.ok.0))) put)

pub returns : goal.returns
returns c us s =
    let text = IsUtf8-string_bytes c.args.text.now in
    let mid = IsUtf8-string_bytes c.push.new.self in
    let pushed = char_pushed _ _ c.in-Some.c text mid c.in_ok-push.ensures.bytes in
    let put = ap chars c.in_ok-push_str-2.ensures.bytes ∙ chars-append (string_bytes c.push.new.self) c.args.after.now mid ∙ ap (λ z. z ++ chars c.args.after.now) pushed ∙ append_assoc (chars (string_bytes c.args.text.now)) (c.in-Some.c ∷ []) (chars c.args.after.now) in
    rw c.in-Some.is (spells_escape _ _ us text s _ c.in-Some.c (chars c.args.after.now) put)
