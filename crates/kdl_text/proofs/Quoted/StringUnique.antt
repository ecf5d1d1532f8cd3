-- A text begins with one quoted string at most, over both forms, and with one raw string.
use Rattle.std.proofs.Common.{◌≡◌, ℕ, zero, suc, ◌<◌, ◌≤◌, true, false, ◌==◌, List, [], ◌∷◌, ◌++◌, length, refl, sym, ap, ◌∙◌, subst, arith, length-append}
use Rattle.std.proofs.lemmas.Bool.{true≢false}
use Rattle.kdl_text.specs.Chars.{Text, begins_with, times, starts}
use Rattle.kdl_text.specs.Dedent.{Dedents, LineUnit}
use Rattle.kdl_text.specs.MultiLine.{ContentUnit, quote, line, unit, Content, close, more, MultiLineBody, lines, MultiLineString, multi_line, IsQuoted, on_one_line, on_many_lines}
use Rattle.kdl_text.specs.Raw as raw
use Rattle.kdl_text.specs.Raw.{closing, literals, RawUnit, RawUnits, RawContent, RawString, MultiLineRawBody, MultiLineRawString, IsRaw}
use Rattle.kdl_text.proofs.RawStrings.ClosingPlaces.{signs_same}
use Rattle.kdl_text.proofs.ManyLines.DedentReads.{dedents_det}
use Rattle.kdl_text.proofs.ManyLines.LinesUnique.{content_det}
use Rattle.kdl_text.proofs.Spacing.NewlineUnique.{newline_det, newline_shorter}
use Rattle.kdl_text.proofs.RawStrings.RawReads.{looks_many}
use Rattle.kdl_text.proofs.RawStrings.LineLoop.{literals_same}
use Rattle.kdl_text.proofs.RawStrings.RawUnique.{raw_det}
use Rattle.kdl_text.proofs.Quoted.UnitUnique.{quoted_det, quoted_begins, quoted_shorter, unit_shorter}

body_same : {t r s v w : Text} → MultiLineBody t r v → MultiLineBody t s w → (r ≡ s) × (v ≡ w)
body_same {s = s} {w = w} (lines n x d) (lines {us = us} m y e) =
    let (ends, same) = content_det x (subst (λ z. Content z s us) (newline_det m n) y) in
    (ends, dedents_det d (subst (λ z. Dedents z w) (sym same) e))

three : {t r v : Text} → begins_with (34 ∷ 34 ∷ 34 ∷ []) t ≡ false → MultiLineString t r v → ⊥
three h (multi_line b) = true≢false h

lines_same : {t r s v w : Text} → MultiLineString t r v → MultiLineString t s w → (r ≡ s) × (v ≡ w)
lines_same (multi_line a) (multi_line b) = body_same a b

-- a text begins with one quoted string at most
pub is_quoted_det : {t r s v w : Text} → IsQuoted t r v → IsQuoted t s w → (r ≡ s) × (v ≡ w)
is_quoted_det (on_one_line h a) (on_one_line k b) = quoted_det a b
is_quoted_det (on_one_line h a) (on_many_lines b) = absurd (three h b)
is_quoted_det (on_many_lines a) (on_one_line k b) = absurd (three k a)
is_quoted_det (on_many_lines a) (on_many_lines b) = lines_same a b

lines_begin : {t r v : Text} → MultiLineString t r v → starts (λ c. c == 34) t ≡ true
lines_begin (multi_line b) = refl

-- a quoted string begins with a quote
pub is_quoted_begins : {t r v : Text} → IsQuoted t r v → starts (λ c. c == 34) t ≡ true
is_quoted_begins (on_one_line h a) = quoted_begins a
is_quoted_begins (on_many_lines b) = lines_begin b

content_unit_shorter : {t r : Text} {us : List LineUnit} → ContentUnit t r us → length r < length t
content_unit_shorter (quote h) = omega arith
content_unit_shorter (line n) = newline_shorter n
content_unit_shorter (unit i e) = unit_shorter i

content_shorter : {t r : Text} {us : List LineUnit} → Content t r us → length r < length t
content_shorter close = omega arith
content_shorter (more i x e) = omega (arith, content_unit_shorter i, content_shorter x)

lines_shorter : {t r v : Text} → MultiLineString t r v → length r < length t
lines_shorter (multi_line (lines n x d)) = omega (arith, newline_shorter n, content_shorter x)

-- a quoted string is not empty
pub is_quoted_shorter : {t r v : Text} → IsQuoted t r v → length r < length t
is_quoted_shorter (on_one_line h a) = quoted_shorter a
is_quoted_shorter (on_many_lines b) = lines_shorter b

-- what the body of a raw string is, its number signs given
raw_line_same : {t r s v w : Text} → RawString t r v → RawString t s w → (r ≡ s) × (v ≡ w)
raw_line_same {s = s} {v = v} {w = w} a b =
    let (count, body) = signs_same b.signs a.signs b.body a.body (sym b.text ∙ a.text) in
    let x : RawContent (closing 1 b.signs) a.body s (literals w) = subst (λ z. RawContent (closing 1 b.signs) z s (literals w)) body b.content in
    let y : RawContent (closing 1 a.signs) a.body s (literals w) = subst (λ z. RawContent (closing 1 z) a.body s (literals w)) count x in
    let (ends, same) = raw_det a.content y in
    (ends, literals_same v w same)

raw_body_same : {n : ℕ} {t r s v w : Text} → MultiLineRawBody n t r v → MultiLineRawBody n t s w → (r ≡ s) × (v ≡ w)
raw_body_same {n = n} {s = s} {w = w} (raw.lines k x d) (raw.lines {us = us} l y e) =
    let (ends, same) = raw_det x (subst (λ z. RawContent (closing 3 n) z s us) (newline_det l k) y) in
    (ends, dedents_det d (subst (λ z. Dedents z w) (sym same) e))

raw_lines_same : {t r s v w : Text} → MultiLineRawString t r v → MultiLineRawString t s w → (r ≡ s) × (v ≡ w)
raw_lines_same {s = s} {w = w} a b =
    let (count, quotes) = signs_same b.signs a.signs (34 ∷ 34 ∷ b.body) (34 ∷ 34 ∷ a.body) (sym b.text ∙ a.text) in
    let body : b.body ≡ a.body = cc in
    let x : MultiLineRawBody b.signs a.body s w = subst (λ z. MultiLineRawBody b.signs z s w) body b.is_body in
    raw_body_same a.is_body (subst (λ z. MultiLineRawBody z a.body s w) count x)

raw_forms_apart : {t r s v w : Text} → RawString t r v → MultiLineRawString t s w → ⊥
raw_forms_apart {r = r} {v = v} a b =
    let (count, body) = signs_same a.signs b.signs a.body (34 ∷ 34 ∷ b.body) (sym a.text ∙ b.text) in
    looks_many a.signs b.body r v a.some (subst (λ z. RawContent (closing 1 a.signs) z r (literals v)) body a.content) a.single

-- a text begins with one raw string at most
pub is_raw_det : {t r s v w : Text} → IsRaw t r v → IsRaw t s w → (r ≡ s) × (v ≡ w)
is_raw_det (raw.on_one_line a) (raw.on_one_line b) = raw_line_same a b
is_raw_det (raw.on_one_line a) (raw.on_many_lines b) = absurd (raw_forms_apart a b)
is_raw_det (raw.on_many_lines a) (raw.on_one_line b) = absurd (raw_forms_apart b a)
is_raw_det (raw.on_many_lines a) (raw.on_many_lines b) = raw_lines_same a b

-- number signs, at least one, and a quote begin a raw string
pub is_raw_front : {t r v : Text} → IsRaw t r v → (n : ℕ) × (m : Text) × (0 < n) × (t ≡ times n 35 ++ 34 ∷ m)
is_raw_front (raw.on_one_line a) = (a.signs, a.body, a.some, a.text)
is_raw_front (raw.on_many_lines a) = (a.signs, 34 ∷ 34 ∷ a.body, a.some, a.text)

signs_begin : (n : ℕ) (t m : Text) → 0 < n → t ≡ times n 35 ++ m → starts (λ c. c == 35) t ≡ true
signs_begin zero t m some e = absurd (omega arith)
signs_begin (suc n) t m some e = rw e refl

-- a raw string begins with a number sign
pub is_raw_begins : {t r v : Text} → IsRaw t r v → starts (λ c. c == 35) t ≡ true
is_raw_begins {t = t} a = let (n, m, some, e) = is_raw_front a in signs_begin n t (34 ∷ m) some e

raw_unit_shorter : {p t r : Text} {u : LineUnit} → RawUnit p t r u → length r < length t
raw_unit_shorter (raw.char h k) = omega arith
raw_unit_shorter (raw.line n) = newline_shorter n

raw_units_shorter : {p t r : Text} {us : List LineUnit} → RawUnits p t r us → length r ≤ length t
raw_units_shorter raw.none = omega arith
raw_units_shorter (raw.more i is) = omega (arith, raw_unit_shorter i, raw_units_shorter is)

raw_content_shorter : {p t r : Text} {us : List LineUnit} → RawContent p t r us → length r ≤ length t
raw_content_shorter {p = p} {r = r} (raw.content is e) = omega (arith, raw_units_shorter is, ap length e, length-append p r)

raw_body_shorter : {n : ℕ} {t r v : Text} → MultiLineRawBody n t r v → length r < length t
raw_body_shorter (raw.lines n x d) = omega (arith, newline_shorter n, raw_content_shorter x)

-- a raw string is not empty
pub is_raw_shorter : {t r v : Text} → IsRaw t r v → length r < length t
is_raw_shorter (raw.on_one_line a) = omega (arith, raw_content_shorter a.content, ap length a.text, length-append (times a.signs 35) (34 ∷ a.body))
is_raw_shorter (raw.on_many_lines a) = omega (arith, raw_body_shorter a.is_body, ap length a.text, length-append (times a.signs 35) (34 ∷ 34 ∷ 34 ∷ a.body))
