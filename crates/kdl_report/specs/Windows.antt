-- The part of a line that is shown: a window around the start of its mark, of so many columns at most.
use Rattle.std.specs.Prelude.{ℕ, ◌+◌, ◌-◌, ◌/◌, max, nat_le, ◌==◌, [], ◌∷◌, ◌++◌, Option, Some, None, drop, if◌then◌else◌, length}
use Rattle.kdl_text.specs.Chars.{Text}
use Rattle.kdl_text.specs.declared.span.SourceSpan.{SourceSpan}
use Rattle.kdl_report.specs.Rows.{Row, first_row, has_last_row, last_row}
use Rattle.kdl_report.specs.Shown.{columns, shown_char}

-- the room of a character: the columns of what is shown for it, and at least one
abbrev pub room : ℕ → ℕ
room c = max 1 (columns (shown_char c))

-- the room of a text
abbrev pub rooms : Text → ℕ
rooms [] = 0
rooms (c ∷ s) = room c + rooms s

-- the longest front of a text that has room in n columns
abbrev pub front_in : ℕ → Text → Text
front_in n [] = []
front_in n (c ∷ s) = if nat_le (room c) n then c ∷ front_in (n - room c) s else []

-- the longest end of a text that has room in n columns
abbrev pub end_in : ℕ → Text → Text
end_in n [] = []
end_in n (c ∷ s) = if nat_le (rooms (c ∷ s)) n then c ∷ s else end_in n s

-- `…` if a part of a text is not all of it
abbrev pub dots : (whole part : Text) → Text
dots whole part = if length part == length whole then [] else 0x2026 ∷ []

-- the part of a line that is shown in n columns left of its mark: half of them are kept for the text from the mark on, as far as it needs them
abbrev pub left_part : ℕ → (left right : Text) → Text
left_part n left right = end_in (n - rooms (front_in (n / 2) right)) left

-- how many of n columns are there for the text from the mark on, and the part of it that is shown there
abbrev pub right_room : ℕ → (left right : Text) → ℕ
right_room n left right = n - rooms (left_part n left right)

abbrev pub right_part : ℕ → (left right : Text) → Text
right_part n left right = front_in (right_room n left right) right

-- both parts, with `…` where the line is cut
abbrev pub left_shown : ℕ → (left right : Text) → Text
left_shown n left right = dots left (left_part n left right) ++ left_part n left right

abbrev pub right_shown : ℕ → (left right : Text) → Text
right_shown n left right = right_part n left right ++ dots right (right_part n left right)

-- the text of a line from its mark on
abbrev pub right_of : Row → Text
right_of row = drop (length row.left) row.line

-- a row, cut to n columns around the start of its mark, with `…` where it is cut
abbrev pub cut_row : ℕ → Row → Row
cut_row n row = record {
  number = row.number;
  line = left_shown n row.left (right_of row) ++ right_shown n row.left (right_of row);
  left = left_shown n row.left (right_of row);
  marked = front_in (right_room n row.left (right_of row)) row.marked;
}

-- the line in which a span begins, as it is shown
abbrev pub first_shown : SourceSpan → Text → Row
first_shown span t = cut_row 200 (first_row span t)

-- the line in which a span ends, if it is shown
abbrev pub last_shown : SourceSpan → Text → Option Row
last_shown span t = if has_last_row span t then Some (cut_row 200 (last_row span t)) else None
