-- The texts around nodes and documents if no comments are kept, and texts without comments.
use Rattle.std.specs.Prelude.{Bool, true, false, not, [], ◌∷◌}
use Rattle.std.specs.List.{list_all}
use Rattle.kdl_text.specs.Chars.{Text, is_space, is_newline_char}
use Rattle.kdl_grammar.specs.Tree.{NodeFormat}

-- the texts around a node on its own line: a text before it, a space before its children, a newline after it
abbrev pub plain_line : Text → NodeFormat
plain_line before = record {
  leading = before;
  before_ty_name = [];
  after_ty_name = [];
  after_ty = [];
  before_children = 32 ∷ [];
  before_terminator = [];
  terminator = 10 ∷ [];
  trailing = [];
}

-- a newline, or nothing
abbrev pub newline_if : Bool → Text
newline_if true = 10 ∷ []
newline_if false = []

-- the text contains only spaces of KDL
abbrev pub only_spaces : Text → Bool
only_spaces t = list_all is_space t

-- the text contains no newline
abbrev pub no_newline : Text → Bool
no_newline t = list_all (λ c. not (is_newline_char c)) t
