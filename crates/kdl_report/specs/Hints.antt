-- The hints where a text looks like KDL 1 or another format.
use Rattle.std.specs.Prelude.{ℕ, ◌&&◌, ◌==◌, [], ◌∷◌, List, Option, Some, None, codes, if◌then◌else◌}
use Rattle.std.specs.List.{take_while}
use Rattle.std.specs.Option.{option_or}
use Rattle.std.specs.Str.{bytes_eq}
use Rattle.kdl_text.specs.Chars.{Text, begins, is_identifier_char}
use Rattle.kdl_text.specs.declared.error.KdlDiagnostic.{KdlDiagnostic}
use Rattle.kdl_report.specs.Places.{from}

-- the bare string at the front of a text
abbrev pub word : Text → Text
word = take_while is_identifier_char

-- the text after the `#` at its front
abbrev pub after_hashes : Text → Text
after_hashes [] = []
after_hashes (c ∷ s) = if c == 35 then after_hashes s else c ∷ s

-- for a keyword of KDL 1
abbrev pub keyword_hint : Text → Option (List ℕ)
keyword_hint w =
    if bytes_eq w (codes "true") then Some (codes "write '#true' for the boolean, or '\"true\"' for the string")
    else if bytes_eq w (codes "false") then Some (codes "write '#false' for the boolean, or '\"false\"' for the string")
    else if bytes_eq w (codes "null") then Some (codes "write '#null' for no value, or '\"null\"' for the string")
    else if bytes_eq w (codes "nan") then Some (codes "write '#nan' for the number, or '\"nan\"' for the string")
    else if bytes_eq w (codes "inf") then Some (codes "write '#inf' for the number, or '\"inf\"' for the string")
    else if bytes_eq w (codes "-inf") then Some (codes "write '#-inf' for the number, or '\"-inf\"' for the string")
    else None

-- for a raw string of KDL 1: `r`, any number of `#`, and `"`
abbrev pub raw_string_hint : Text → Option (List ℕ)
raw_string_hint [] = None
raw_string_hint (c ∷ s) = if (c == 114) && begins 34 (after_hashes s) then Some (codes "write '#\"...\"#' for a raw string, without 'r'") else None

-- for a sign that begins no value: `=`, `[`, and `#` before a space
abbrev pub sign_hint : Text → Option (List ℕ)
sign_hint [] = None
sign_hint (c ∷ s) =
    if c == 61 then Some (codes "write 'name value' for a node, without '=', and 'name key=value' for a property")
    else if c == 91 then Some (codes "write 'name 1 2' for several values, and 'name { ... }' for a section")
    else if (c == 35) && begins 32 s then Some (codes "write '// ...' for a comment")
    else None

-- the first of these for a text that begins with what is marked
abbrev pub hint_at : Text → Option (List ℕ)
hint_at s = option_or (option_or (keyword_hint (word s)) (raw_string_hint s)) (sign_hint s)

-- the hint on a fault of the text
abbrev pub hint_of : Text → KdlDiagnostic → Option (List ℕ)
hint_of t fault = hint_at (from fault.span.offset t)
