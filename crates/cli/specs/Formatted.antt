-- What layout makes of a text, by the settings of the program.
use Rattle.std.specs.List.{repeat}
use Rattle.std.specs.Prelude.{◌≡◌, ◌∷◌, [], not, true}
use Rattle.cli.specs.declared.settings.Indent.{Indent}
use Rattle.cli.specs.declared.settings.Indent.TheVariants.{Spaces, Tab}
use Rattle.cli.specs.declared.settings.Settings.{Settings}
use Rattle.kdl.specs.Words as kdl'
use Rattle.kdl.specs.Words.{AllCommentsStay, Document, IsLaidDocument, Keeping, LaidDocument, Text, defaults, print_document}

-- spaces, or one tab
abbrev pub indent_text : Indent → Text
indent_text (Spaces n) = repeat n (32 ∷ [])
indent_text Tab = 9 ∷ []

-- the settings of layout: its defaults, with this indent
abbrev pub layout_settings : Settings → kdl'.Settings
layout_settings s = record defaults { indent = indent_text s.indent }

-- what stays inside nodes: all comments, and spellings unless they are replaced
abbrev pub layout_keeping : Settings → Keeping
layout_keeping s = record { spelling = not s.respell; comments = true }

-- out is what the document of the text prints after layout; all comments are kept, and a second layout changes nothing
pub record IsFormatted (s : Settings) (text out : Text) : Type 0 where
  pub before : Document
  pub after : Document
  pub laid : LaidDocument before text
  pub formatted : IsLaidDocument (layout_keeping s) (not s.expand) true s.blank_lines (layout_settings s) 0 before after
  pub prints : out ≡ print_document after 0
  pub comments : AllCommentsStay before out
  pub again : (y : Document) → IsLaidDocument (layout_keeping s) (not s.expand) true s.blank_lines (layout_settings s) 0 after y → y ≡ after
