-- What documents print after they are formatted.
use Rattle.std.specs.List.{list_all}
use Rattle.std.specs.Prelude.{◌≡◌, ℕ, Bool, true, not, ◌==◌}
use Rattle.kdl.specs.Words.{CommentsStay, DocumentLaidOut, IsDocument, LaidDocument, Text, defaults, document_prints, document_says, document_tree}
use Rattle.kdl.specs.declared.document.KdlDocument.{KdlDocument}
use Rattle.kdl_layout.specs.Config.{Keeping, Settings}
use Rattle.kdl_layout.specs.OneLine.{IsLaidDocument}
use Rattle.kdl_text.specs.Chars.{is_space}
use Rattle.c_calls.specs.declared.laid_out.KdlLayout.{KdlLayout}

-- p is what the document d prints after it is formatted with its comments
pub record IsLaidOut (d : KdlDocument) (p : Text) : Type 0 where
  pub formatted : KdlDocument
  pub laid_out : DocumentLaidOut defaults d formatted
  pub prints : document_prints formatted ≡ p
  pub derived : IsDocument p (document_says d)
  pub comments : CommentsStay (document_tree d) p

-- p is what a document of the text t prints after it is formatted with its comments
pub record IsTextLaidOut (t p : Text) : Type 0 where
  pub read : KdlDocument
  pub laid : LaidDocument (document_tree read) t
  pub text : IsLaidOut read p

-- the text contains only spaces of KDL
abbrev pub AreSpaces : Text → Type 0
AreSpaces t = list_all is_space t ≡ true

-- a flag is set
abbrev pub is_set : ℕ → Bool
is_set n = not (n == 0)

-- the settings of a layout with an indent
abbrev pub settings_of : KdlLayout → Text → Settings
settings_of l i = record defaults { indent = i; no_comments = is_set l.no_comments }

-- what stays inside nodes: comments, and spellings if these are kept
abbrev pub keeping_of : KdlLayout → Keeping
keeping_of l = record { spelling = is_set l.keep_spelling; comments = true }

-- e is the document d after it is laid out with this indent
abbrev pub IsLaidOutAs : KdlLayout → Text → KdlDocument → KdlDocument → Type 0
IsLaidOutAs l i d e = IsLaidDocument (keeping_of l) (is_set l.keep_one_line) true l.blank_lines (settings_of l i) 0 (document_tree d) (document_tree e)
