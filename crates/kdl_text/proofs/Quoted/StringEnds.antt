-- What follows a string is an end of the text.
use Rattle.std.proofs.Common.{ℕ, List}
use Rattle.kdl_text.specs.Dedent.{LineUnit}
use Rattle.kdl_text.specs.Chars.{Text, times}
use Rattle.kdl_text.specs.Strings.{StringUnit, IsUnit, one_literal, one_letter, one_number, one_gap, AreUnits, body, QuotedString, quoted}
use Rattle.kdl_text.specs.MultiLine.{ContentUnit, Content, MultiLineBody, MultiLineString, multi_line, IsQuoted}
use Rattle.kdl_text.specs.Raw.{RawUnit, RawUnits, RawContent, RawString, MultiLineRawBody, MultiLineRawString, IsRaw}
use Rattle.kdl_text.proofs.Looking.Ends.{End, here, also, then, past, end_newline}

unit_end : {s r : Text} {u : StringUnit} → IsUnit s r u → End s r
unit_end (one_literal {c = c} x) = also c here
unit_end (one_letter {e = e} x) = also 92 (also e here)
unit_end (one_number h) = also 92 (also 117 (also 123 (past (record { piece = h.digits; text = h.text }))))
unit_end (one_gap {e = e} x gap) = also 92 (also e (record { piece = gap.run; text = gap.text }))

units_end : {s r : Text} {us : List StringUnit} → AreUnits s r us → End s r
units_end AreUnits.none = here
units_end (AreUnits.more u us) = then (unit_end u) (units_end us)

pub quoted_end : {s r v : Text} → QuotedString s r v → End s r
quoted_end (quoted (body us e)) = also 34 (past (units_end us))

content_unit_end : {s r : Text} {us : List LineUnit} → ContentUnit s r us → End s r
content_unit_end (ContentUnit.quote x) = also 34 here
content_unit_end (ContentUnit.line n) = end_newline n
content_unit_end (ContentUnit.unit u e) = unit_end u

content_end : {s r : Text} {us : List LineUnit} → Content s r us → End s r
content_end Content.close = also 34 (also 34 (also 34 here))
content_end (Content.more u c e) = then (content_unit_end u) (content_end c)

many_end : {s r v : Text} → MultiLineString s r v → End s r
many_end (multi_line (MultiLineBody.lines n c d)) = also 34 (also 34 (also 34 (then (end_newline n) (content_end c))))

-- after a quoted string in either form
pub is_quoted_end : {s r v : Text} → IsQuoted s r v → End s r
is_quoted_end (IsQuoted.on_one_line x q) = quoted_end q
is_quoted_end (IsQuoted.on_many_lines m) = many_end m

raw_unit_end : {p s r : Text} {u : LineUnit} → RawUnit p s r u → End s r
raw_unit_end (RawUnit.char {c = c} x y) = also c here
raw_unit_end (RawUnit.line n) = end_newline n

raw_units_end : {p s r : Text} {us : List LineUnit} → RawUnits p s r us → End s r
raw_units_end RawUnits.none = here
raw_units_end (RawUnits.more u us) = then (raw_unit_end u) (raw_units_end us)

raw_content_end : {p s r : Text} {us : List LineUnit} → RawContent p s r us → End s r
raw_content_end {p = p} (RawContent.content us e) = then (raw_units_end us) (record { piece = p; text = e })

raw_end : {s r v : Text} → RawString s r v → End s r
raw_end x = then (record { piece = times x.signs 35; text = x.text }) (also 34 (raw_content_end x.content))

raw_body_end : {n : ℕ} {s r v : Text} → MultiLineRawBody n s r v → End s r
raw_body_end (MultiLineRawBody.lines n c d) = then (end_newline n) (raw_content_end c)

raw_many_end : {s r v : Text} → MultiLineRawString s r v → End s r
raw_many_end x = then (record { piece = times x.signs 35; text = x.text }) (also 34 (also 34 (also 34 (raw_body_end x.is_body))))

-- after a raw string in either form
pub is_raw_end : {s r v : Text} → IsRaw s r v → End s r
is_raw_end (IsRaw.on_one_line x) = raw_end x
is_raw_end (IsRaw.on_many_lines x) = raw_many_end x
