-- The number of blank lines before a thing that layout writes on its own line: a node, or a kept item between nodes.
use Rattle.std.specs.Prelude.{ℕ, ◌+◌, ◌-◌, min, max, Bool, true, false, ◌&&◌, not, ◌==◌, if◌then◌else◌, List, [], ◌∷◌, ◌++◌, length, drop}
use Rattle.std.specs.List.{list_any}
use Rattle.kdl_text.specs.Chars.{Text, is_newline_char, times}
use Rattle.kdl_layout.specs.Items.{Item, comment, piece}
use Rattle.kdl_layout.specs.Written.{item_text, line_text}
use Rattle.kdl_layout.specs.declared.blank.Before.{Before}
use Rattle.kdl_layout.specs.declared.blank.Before.TheVariants.{Nothing, Thing}
use Rattle.kdl_layout.specs.declared.blank.Last.{Last}
use Rattle.kdl_layout.specs.declared.blank.Last.TheVariants.{Other, Cr, Escline}

-- whether the newline c counts after what comes last: it does not end an escline, and is not the LF of a CR LF
abbrev pub counts : Last → ℕ → Bool
counts Other c = true
counts Cr c = not (c == 10)
counts Escline c = false

-- what comes last after a space or a block comment: these do not end an escline
abbrev pub goes_on : Last → Last
goes_on Other = Other
goes_on Cr = Other
goes_on Escline = Escline

-- what comes last after a character
abbrev pub after_char : Last → ℕ → Last
after_char l c = if c == 13 then Cr else if is_newline_char c then Other else if c == 92 then Escline else goes_on l

-- what comes last after an item: in an escline, a piece is a block comment, and a line comment ends the escline
abbrev pub last_after_item : Item → Last → Last
last_after_item (comment t) l = Other
last_after_item (piece t) l = goes_on l

-- one if the condition is true, or zero
abbrev pub one_if : Bool → ℕ
one_if true = 1
one_if false = 0

-- the number of newlines that count in a text before its first item, which begins with a slash
abbrev pub newlines : Last → Text → ℕ
newlines l [] = 0
newlines l (c ∷ s) = if c == 47 then 0 else one_if (is_newline_char c && counts l c) + newlines (after_char l c) s

-- what comes last before that item
abbrev pub last_of : Last → Text → Last
last_of l [] = l
last_of l (c ∷ s) = if c == 47 then l else last_of (after_char l c) s

-- the text from its first item on
abbrev pub from_item : Text → Text
from_item [] = []
from_item (c ∷ s) = if c == 47 then c ∷ s else from_item s

-- the text after its first item
abbrev pub after_item : Item → Text → Text
after_item i s = drop (length (item_text i)) (from_item s)

-- what comes before a thing, in the same document or block: nothing, or another thing with the greatest number of
-- blank lines in a run that has ended since, and the number of newlines so far in the current run; and what comes last
-- what comes before the first text of a document or block: nothing
abbrev pub at_start : Before
at_start = Nothing Other

-- what comes before the first item of a text, or before the thing after a text without items
abbrev pub read : Text → Before → Before
read s (Nothing l) = Nothing (last_of l s)
read s (Thing most n l) = Thing most (n + newlines l s) (last_of l s)

-- the number of blank lines before the thing: the first newline of a run ends a line
abbrev pub blank_lines : Before → ℕ
blank_lines (Nothing l) = 0
blank_lines (Thing most n l) = max most (n - 1)

-- what comes last before the thing
abbrev pub last_before : Before → Last
last_before (Nothing l) = l
last_before (Thing most n l) = l

-- what comes before the next thing, after an item that is removed (true) or written (false)
abbrev pub past_item : Bool → Item → Before → Before
past_item true i (Nothing l) = Nothing (last_after_item i l)
past_item true i (Thing most n l) = Thing (max most (n - 1)) 0 (last_after_item i l)
past_item false i b = Thing 0 0 (last_after_item i (last_before b))

-- what comes before the next thing, after a text with these items, all of them removed or written
abbrev pub past_items : Bool → Before → Text → List Item → Before
past_items left_out b s [] = read s b
past_items left_out b s (i ∷ is) = past_items left_out (past_item left_out i (read s b)) (after_item i s) is

-- what comes last in a terminator
abbrev pub last_in : Text → Last
last_in [] = Other
last_in (c ∷ []) = if c == 13 then Cr else Other
last_in (c ∷ d ∷ s) = last_in (d ∷ s)

-- what comes before the next thing, after a node with this terminator
abbrev pub past_node : Text → Before
past_node terminator = Thing 0 (one_if (list_any is_newline_char terminator)) (last_in terminator)

-- the blank lines before the thing, at most this number of them
abbrev pub empty_lines : ℕ → Before → Text
empty_lines number b = times (min number (blank_lines b)) 10

-- a line for each item of a text, after the blank lines before it and the indentation
abbrev pub spaced_lines : ℕ → Text → Before → Text → List Item → Text
spaced_lines number indentation b s [] = []
spaced_lines number indentation b s (i ∷ is) =
    (empty_lines number (read s b) ++ indentation ++ line_text (item_text i) ++ (10 ∷ [])) ++ spaced_lines number indentation (past_item false i (read s b)) (after_item i s) is
