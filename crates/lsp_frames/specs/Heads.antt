-- The head of a frame, as bytes, and the length that it gives.
use Rattle.std.specs.Prelude.{ℕ, suc, ◌+◌, ◌-◌, ◌^◌, ◌&&◌, nat_eq, nat_lt, Option, None, Some, is_some, option_and_then, List, [], ◌∷◌, length, take, drop, codes, if◌then◌else◌}
use Rattle.std.specs.Char.{is_ascii_whitespace}
use Rattle.std.specs.List.{onto_first, prefix_len, starts_with, suffix_len}
use Rattle.std.specs.Option.{option_map}
use Rattle.std.specs.Str.{all_ascii_digits, str_eq_ignore_ascii_case}
use Rattle.std.specs.Str.Parse.{digits_value}

-- CR LF, which ends a line
abbrev pub line_end : List ℕ
line_end = 13 ∷ 10 ∷ []

-- CR LF CR LF: the end of the last line of a head, and the empty line that ends the head
abbrev pub head_end : List ℕ
head_end = 13 ∷ 10 ∷ 13 ∷ 10 ∷ []

-- how many bytes are before the first place that has the part
unfoldable pub place_of : List ℕ → List ℕ → Option ℕ
place_of part [] = None
place_of part (b ∷ bs) = if starts_with nat_eq (b ∷ bs) part then Some 0 else option_map suc (place_of part bs)

-- the lines of a head, without their ends
unfoldable pub lines : List ℕ → List (List ℕ)
lines [] = [] ∷ []
lines (b ∷ []) = (b ∷ []) ∷ []
lines (b ∷ c ∷ bs) = if starts_with nat_eq (b ∷ c ∷ bs) line_end then [] ∷ lines bs else onto_first b (lines (c ∷ bs))

-- the bytes without ASCII white space at both ends
abbrev pub trimmed : List ℕ → List ℕ
trimmed bs = let ds = drop (prefix_len is_ascii_whitespace bs) bs in take (length ds - suffix_len is_ascii_whitespace ds) ds

-- the number that decimal digits write, if it is below 2 ^ 64
unfoldable pub number : List ℕ → Option ℕ
number ds = if nat_lt 0 (length ds) && (all_ascii_digits ds && nat_lt (digits_value 10 ds) (2 ^ 64)) then Some (digits_value 10 ds) else None

-- the length that a line gives: it is the field `Content-Length`, in letters of any case, and its value is a number
unfoldable pub length_of_line : List ℕ → Option ℕ
length_of_line line = option_and_then
    (λ colon. if str_eq_ignore_ascii_case (take colon line) (codes "content-length") then number (trimmed (drop (colon + 1) line)) else None)
    (place_of (codes ":") line)

-- the length that the first of the lines gives that gives one
abbrev pub first_length : List (List ℕ) → Option ℕ
first_length [] = None
first_length (l ∷ ls) = if is_some (length_of_line l) then length_of_line l else first_length ls

-- the length that a head gives
unfoldable pub length_in : List ℕ → Option ℕ
length_in head = first_length (lines head)
