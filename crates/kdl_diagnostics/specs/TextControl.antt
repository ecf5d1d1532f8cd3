-- Which token may come where in a text, and which texts are accepted.
use Rattle.std.specs.Prelude.{◌≡◌, Bool, true, false, [], ◌∷◌, Option, Some, None, option_map}
use Rattle.kdl_text.specs.Chars.{Text}
use Rattle.kdl_syntax.specs.Tokens.{Token, string, BeginsToken}
use Rattle.kdl_syntax.specs.Control.{Control, at, step, finish}
use Rattle.kdl_syntax.specs.declared.control.Phase.TheVariants.{Gap}
use Rattle.kdl_syntax.specs.EntryControl.{entry_step, entry_finish}
use Rattle.kdl_syntax.specs.declared.entry_control.EntryControl.{EntryControl, TheVariants.Ahead}
use Rattle.kdl_syntax.specs.NodeControl.{NodeControl, node_start, node_step, node_finish}
use Rattle.kdl_diagnostics.specs.declared.whole.Whole.{Whole}
use Rattle.kdl_diagnostics.specs.declared.whole.Whole.TheVariants.{Document, Node, Entry, Identifier}

-- the control of a document, of a node text, or of an entry text; of an identifier text, whether its string was read
pub data TextControl : Type 0 where
  in_document : Control → TextControl
  in_node : NodeControl → TextControl
  in_entry : EntryControl → TextControl
  in_identifier : Bool → TextControl

-- the control after the token; none if the token may not come here
abbrev pub text_step : TextControl → Token → Option TextControl
text_step (in_document c) k = option_map in_document (step c k)
text_step (in_node c) k = option_map in_node (node_step c k)
text_step (in_entry c) k = option_map in_entry (entry_step c k)
text_step (in_identifier false) (string v) = Some (in_identifier true)
text_step (in_identifier _) _ = None

-- the text may end here
abbrev pub text_finish : TextControl → Bool
text_finish (in_document c) = finish c
text_finish (in_node c) = node_finish c
text_finish (in_entry c) = entry_finish c
text_finish (in_identifier b) = b

-- at the start of the text
abbrev pub text_start : Whole → TextControl
text_start Document = in_document (at Gap [])
text_start Node = in_node node_start
text_start Entry = in_entry Ahead
text_start Identifier = in_identifier false

-- from here on, the text is cut into tokens that the control takes one after another, and it may end after them
pub data Takes : TextControl → Text → Type 0 where
  ends : {c : TextControl} → text_finish c ≡ true → Takes c []
  takes : {c d : TextControl} {s r : Text} {k : Token} → BeginsToken s k r → text_step c k ≡ Some d → Takes d r → Takes c s

-- so is a document, after the U+FEFF that it may begin with
pub data AcceptsDocument : Text → Type 0 where
  no_bom : {t : Text} → Takes (text_start Document) t → AcceptsDocument t
  after_bom : {t : Text} → Takes (text_start Document) t → AcceptsDocument (0xFEFF ∷ t)

-- the text is accepted: its control takes it
abbrev pub Accepts : Whole → Text → Type 0
Accepts Document t = AcceptsDocument t
Accepts w t = Takes (text_start w) t
