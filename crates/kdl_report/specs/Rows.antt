-- The lines that are shown for a span of a text, and what is marked in them.
use Rattle.std.specs.Prelude.{ℕ, ◌+◌, Bool, ◌&&◌, nat_lt, []}
use Rattle.kdl_text.specs.Chars.{Text}
use Rattle.kdl_text.specs.declared.span.SourceSpan.{SourceSpan}
use Rattle.kdl_report.specs.Places.{before, between, column, first_line, last_line, line_at, line_number}

-- a line that is shown: its number and its text, what is left of the mark in it, and what is marked
pub record Row : Type 0 where
  pub number : ℕ
  pub line : Text
  pub left : Text
  pub marked : Text

-- the byte at which a span ends
abbrev pub end_of : SourceSpan → ℕ
end_of span = span.offset + span.len

-- the line in which the span begins, marked from there to the end of the span or of the line
abbrev pub first_row : SourceSpan → Text → Row
first_row span t = record {
  number = line_number span.offset t;
  line = line_at span.offset t;
  left = last_line (before span.offset t);
  marked = first_line (between span.offset (end_of span) t);
}

-- the line in which the span ends, marked up to there
abbrev pub last_row : SourceSpan → Text → Row
last_row span t = record {
  number = line_number (end_of span) t;
  line = line_at (end_of span) t;
  left = [];
  marked = last_line (before (end_of span) t);
}

-- the span ends in a later line than that in which it begins, and not at its start
abbrev pub has_last_row : SourceSpan → Text → Bool
has_last_row span t = nat_lt (line_number span.offset t) (line_number (end_of span) t) && nat_lt 1 (column (end_of span) t)
