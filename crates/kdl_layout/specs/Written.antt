-- How items are written when a document is laid out.
use Rattle.std.specs.Prelude.{List, [], ◌∷◌, ◌++◌, ◌==◌, if◌then◌else◌}
use Rattle.kdl_text.specs.Chars.{Text}
use Rattle.kdl_layout.specs.Items.{Item, comment, piece}

abbrev pub item_text : Item → Text
item_text (comment t) = t
item_text (piece t) = t

-- the text, with LF for a CR of an escline at its end: a CR and the newline after it would be one newline
abbrev pub line_text : Text → Text
line_text [] = []
line_text (c ∷ []) = (if c == 13 then 10 else c) ∷ []
line_text (c ∷ d ∷ s) = c ∷ line_text (d ∷ s)

-- a line for each item, after a text
abbrev pub lines : Text → List Item → Text
lines before [] = []
lines before (i ∷ is) = (before ++ line_text (item_text i) ++ (10 ∷ [])) ++ lines before is

-- each item after a space; a line comment is written as the end of an escline
abbrev pub tail : List Item → Text
tail [] = []
tail (comment t ∷ is) = (32 ∷ 92 ∷ 32 ∷ t ++ (10 ∷ [])) ++ tail is
tail (piece t ∷ is) = (32 ∷ t) ++ tail is

-- the item as it is on a line
abbrev pub on_line : Item → Item
on_line (comment t) = comment (line_text t)
on_line (piece t) = piece (line_text t)
