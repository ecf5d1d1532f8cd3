-- The picture of a fault, line by line. Its lines are those of specs/Rows.antt.
use Rattle.std.specs.Prelude.{ℕ, ◌-◌, Bool, ◌||◌, nat_lt, is_some, List, [], ◌∷◌, ◌++◌, Option, Some, None, chars, codes, decimal, length, if◌then◌else◌}
use Rattle.kdl_text.specs.Chars.{Text, times}
use Rattle.kdl_text.specs.declared.error.KdlDiagnostic.{KdlDiagnostic}
use Rattle.kdl_text.specs.declared.span.Severity.{Severity}
use Rattle.kdl_text.specs.declared.span.Severity.TheVariants.{Advice, Warning, Error}
use Rattle.kdl_report.specs.declared.places.Place.{Place}
use Rattle.kdl_report.specs.Places.{column, line_number}
use Rattle.kdl_report.specs.Rows.{Row}
use Rattle.kdl_report.specs.Said.{label_of, message_of, optional, word_of}
use Rattle.kdl_report.specs.Shown.{carets, columns, shown}
use Rattle.kdl_report.specs.Windows.{first_shown, last_shown}

-- an escape that sets a style of the terminal, if the picture has colours
abbrev pub paint : Bool → List ℕ → Text
paint color style = if color then chars style else []

-- the escapes: bold, blue, red, yellow, cyan, and back to plain
abbrev pub bold : List ℕ
bold = 27 ∷ codes "[1m"

abbrev pub blue : List ℕ
blue = 27 ∷ codes "[1;34m"

abbrev pub plain : List ℕ
plain = 27 ∷ codes "[0m"

abbrev pub style_of : Severity → List ℕ
style_of Error = 27 ∷ codes "[1;31m"
style_of Warning = 27 ∷ codes "[1;33m"
style_of Advice = 27 ∷ codes "[1;36m"

-- what is shown for a text after a space, and nothing for no text
abbrev pub spaced : Text → Text
spaced [] = []
spaced (c ∷ s) = 32 ∷ shown (c ∷ s)

-- `error: message`
abbrev pub head : Bool → KdlDiagnostic → Text
head color fault =
    paint color (style_of fault.severity) ++ word_of fault.severity ++ paint color plain
    ++ paint color bold ++ chars (codes ": ") ++ shown (message_of fault) ++ paint color plain ++ 10 ∷ []

-- `config.kdl:2:6`
abbrev pub location : Text → Place → Text
location name place = shown name ++ 58 ∷ [] ++ decimal place.line ++ 58 ∷ [] ++ decimal place.column

-- the place of a byte
abbrev pub place_at : ℕ → Text → Place
place_at n t = record { line = line_number n t; column = column n t }

-- ` --> config.kdl:2:6`, where w is the number of digits in the margin
abbrev pub arrow : Bool → ℕ → Text → Place → Text
arrow color w name place =
    times w 32 ++ paint color blue ++ chars (codes "-->") ++ paint color plain ++ 32 ∷ [] ++ location name place ++ 10 ∷ []

-- the margin of a line without a number, with `|` or `=`
abbrev pub margin : Bool → ℕ → ℕ → Text
margin color w bar = times w 32 ++ 32 ∷ [] ++ paint color blue ++ bar ∷ [] ++ paint color plain

-- `  |`
abbrev pub empty_line : Bool → ℕ → Text
empty_line color w = margin color w 124 ++ 10 ∷ []

-- `2 | port #treu`
abbrev pub source_line : Bool → ℕ → Row → Text
source_line color w row =
    paint color blue ++ decimal row.number ++ times (w - length (decimal row.number)) 32 ++ chars (codes " |") ++ paint color plain
    ++ spaced row.line ++ 10 ∷ []

-- `  |      ^^^^^ not keyword`: blanks for the columns of what is left of the mark, and carets for those of the marked text
abbrev pub caret_line : Bool → ℕ → Severity → Row → Text → Text
caret_line color w severity row label =
    margin color w 124 ++ 32 ∷ [] ++ times (columns (shown row.left)) 32
    ++ paint color (style_of severity) ++ carets row.marked ++ spaced label ++ paint color plain ++ 10 ∷ []

-- a line of the text, with its marks
abbrev pub marked_line : Bool → ℕ → Severity → Row → Text → Text
marked_line color w severity row label = source_line color w row ++ caret_line color w severity row label

-- `...` between two lines that do not follow each other
abbrev pub gap : Row → Row → Text
gap first last = if nat_lt 1 (last.number - first.number) then chars (codes "...\n") else []

-- the line in which the span begins, and that in which it ends; the label is at the last mark
abbrev pub marked_lines : Bool → ℕ → KdlDiagnostic → Row → Option Row → Text
marked_lines color w fault first None = marked_line color w fault.severity first (label_of fault)
marked_lines color w fault first (Some last) =
    marked_line color w fault.severity first [] ++ gap first last ++ marked_line color w fault.severity last (label_of fault)

-- the digits of the last line's number
abbrev pub margin_width : Row → Option Row → ℕ
margin_width first None = length (decimal first.number)
margin_width first (Some last) = length (decimal last.number)

-- `  = help: a hint`
abbrev pub note : Bool → ℕ → List ℕ → Option Text → Text
note color w kind None = []
note color w kind (Some text) = margin color w 61 ++ 32 ∷ [] ++ chars kind ++ chars (codes ": ") ++ shown text ++ 10 ∷ []

-- the notes, after an empty line
abbrev pub notes : Bool → ℕ → Option Text → Option Text → Text
notes color w help hint =
    (if is_some help || is_some hint then empty_line color w else []) ++ note color w (codes "help") help ++ note color w (codes "hint") hint

-- a picture with a margin of w digits
abbrev pub drawn : Bool → ℕ → Text → Text → KdlDiagnostic → Option Text → Text
drawn color w name t fault hint =
    head color fault ++ arrow color w name (place_at fault.span.offset t) ++ empty_line color w
    ++ marked_lines color w fault (first_shown fault.span t) (last_shown fault.span t) ++ notes color w (optional fault.help) hint

-- the picture of a fault in the text t of the file with that name
unfoldable pub picture : Bool → Text → Text → KdlDiagnostic → Option Text → Text
picture color name t fault hint = drawn color (margin_width (first_shown fault.span t) (last_shown fault.span t)) name t fault hint

-- `: a label`
abbrev pub labelled : Option Text → Text
labelled None = []
labelled (Some label) = chars (codes ": ") ++ shown label

-- `config.kdl:2:6: error: Expected keyword: not keyword`
abbrev pub one_line : Text → Text → KdlDiagnostic → Text
one_line name t fault =
    location name (place_at fault.span.offset t) ++ chars (codes ": ") ++ word_of fault.severity ++ chars (codes ": ")
    ++ shown (message_of fault) ++ labelled (optional fault.label) ++ 10 ∷ []
