-- Nodes and documents located in a text: their places and items, in the order of printing, are the text, and each place is what it has to be.
-- If `exact` holds, each span is that of its piece in the text `whole`.
use Rattle.std.specs.Prelude.{ℕ, ◌+◌, ◌-◌, ◌^◌, min, Bool, true, List, [], ◌∷◌, Option, Some, None}
use Rattle.kdl_text.specs.Chars.{Text, Star}
use Rattle.kdl_text.specs.Trivia.{LineSpace}
use Rattle.kdl_text.specs.declared.span.SourceSpan.{SourceSpan}
use Rattle.kdl_entry.specs.Places.{Is, Spanned, span_of}
use Rattle.kdl_entry.specs.Laid.{LaidIdentifier, LaidType, LaidEntry}
use Rattle.kdl_entry.specs.Tree.{Identifier, Entry}
use Rattle.kdl_grammar.specs.Grammar.{Terminator, Gap}
use Rattle.kdl_grammar.specs.Places.{BeforeChildren, AfterChildren}
use Rattle.kdl_grammar.specs.Tree.{NodeFormat, DocumentFormat, Node, node, Children, no_children, children, Document, document, Nodes, none, first}

-- the format of a node, from its texts in order
abbrev pub node_format : Text → Text → Text → Text → Text → Text → Text → Text → NodeFormat
node_format leading before after following before_children before_terminator terminator trailing = record {
  leading = leading;
  before_ty_name = before;
  after_ty_name = after;
  after_ty = following;
  before_children = before_children;
  before_terminator = before_terminator;
  terminator = terminator;
  trailing = trailing;
}

abbrev pub node_span : Node → SourceSpan
node_span (node h k) = h.span

-- the offset at which the last of these nodes ends. The code adds in 64 bits, which hold each offset in a text, so the bound is never reached.
abbrev pub last_end : Node → Nodes → ℕ
last_end n none = min ((node_span n).offset + (node_span n).len) (2 ^ 64 - 1)
last_end n (first m ns) = last_end m ns

-- from the start of the first node to the end of the last one; without nodes the given span
abbrev pub content_span : SourceSpan → Nodes → SourceSpan
content_span at none = at
content_span at (first n ns) = record { offset = (node_span n).offset; len = last_end n ns - (node_span n).offset }

pub data LaidEntries (exact : Bool) (whole : Text) : List Entry → Text → Text → Type 0 where
  no_entry : {s : Text} → LaidEntries exact whole [] s s
  an_entry : {s t r : Text} {e : Entry} {es : List Entry} → LaidEntry exact whole e s t → LaidEntries exact whole es t r → LaidEntries exact whole (e ∷ es) s r

mutual
  -- a node from its type or name to its terminator. The text before it, its terminator, the text after it and its span are separate arguments:
  -- for a node in a list they differ from those of a node that is a whole text.
  pub data LaidNode (exact : Bool) (whole : Text) : Text → Text → Text → SourceSpan → Node → Text → Text → Type 0 where
    laid_node : {leading end trailing before after following before_children before_terminator s t u v r : Text} {at : SourceSpan} {ty : Option Identifier} {name : Identifier} {es : List Entry} {k : Children}
        → LaidType exact whole ty before after following s t → LaidIdentifier exact whole name t u → LaidEntries exact whole es u v
        → LaidChildren exact whole k before_children before_terminator v r
        → LaidNode exact whole leading end trailing at (node (record {
          ty = ty;
          name = name;
          entries = es;
          format = Some (node_format leading before after following before_children before_terminator end trailing);
          span = at;
        }) k) s r

  -- what is between the name or the last entry and the terminator: a block and the places around it, or one place
  pub data LaidChildren (exact : Bool) (whole : Text) : Children → Text → Text → Text → Text → Type 0 where
    no_block : {before s r : Text} → Is BeforeChildren before s r → LaidChildren exact whole no_children [] before s r
    a_block : {before later s t u r : Text} {d : Document} → Is BeforeChildren before s (123 ∷ t) → LaidContent exact whole d t (125 ∷ u) → Is AfterChildren later u r
        → LaidChildren exact whole (children d) before later s r

  -- nodes in a document or a block, each after a gap and with its terminator
  pub data LaidNodes (exact : Bool) (whole : Text) : Nodes → Text → Text → Type 0 where
    no_node : {s : Text} → LaidNodes exact whole none s s
    a_node : {leading end s t u v r : Text} {at : SourceSpan} {x : Node} {xs : Nodes} → Is (Gap true) leading s t → LaidNode exact whole leading end [] at x t u → Is Terminator end u v
        → Spanned exact at (span_of whole t u) → LaidNodes exact whole xs v r → LaidNodes exact whole (first x xs) s r

  -- nodes and a gap after them; without nodes the gap comes before them
  pub data LaidContent (exact : Bool) (whole : Text) : Document → Text → Text → Type 0 where
    without_nodes : {leading s r : Text} {at : SourceSpan} → Is (Gap true) leading s r → Spanned exact at (span_of whole r r)
        → LaidContent exact whole (document (Some (record { leading = leading; trailing = [] })) at none) s r
    with_nodes : {trailing s t r : Text} {at : SourceSpan} {x : Node} {xs : Nodes} → LaidNodes exact whole (first x xs) s t → Is (Gap true) trailing t r
        → Spanned exact at (content_span (span_of whole r r) (first x xs)) → LaidContent exact whole (document (Some (record { leading = []; trailing = trailing })) at (first x xs)) s r

-- the format with U+FEFF before its leading text
abbrev pub bom_format : Option DocumentFormat → DocumentFormat
bom_format None = record { leading = 0xFEFF ∷ []; trailing = [] }
bom_format (Some f) = record f { leading = 0xFEFF ∷ f.leading }

-- the document with U+FEFF before its leading text
abbrev pub with_bom : Document → Document
with_bom (document f at ns) = document (Some (bom_format f)) at ns

-- a document that is the whole text: an optional U+FEFF, and then its content
pub data LaidDocumentAs (exact : Bool) : Document → Text → Type 0 where
  no_bom : {d : Document} {t : Text} → LaidContent exact t d t [] → LaidDocumentAs exact d t
  after_bom : {d : Document} {t : Text} → LaidContent exact (0xFEFF ∷ t) d t [] → LaidDocumentAs exact (with_bom d) (0xFEFF ∷ t)

-- the same with its spans
abbrev pub LaidDocument : Document → Text → Type 0
LaidDocument d t = LaidDocumentAs true d t

-- a node that is the whole text, with line-spaces after it; its span is the whole text
pub data LaidNodeTextAs (exact : Bool) (whole : Text) : Node → Type 0 where
  laid_node_text : {leading end trailing t u v : Text} {at : SourceSpan} {x : Node} → Is (Gap true) leading whole t → LaidNode exact whole leading end trailing at x t u
      → Is Terminator end u v → Is (Star LineSpace) trailing v [] → Spanned exact at (span_of whole whole []) → LaidNodeTextAs exact whole x

-- the same with its spans
abbrev pub LaidNodeText : Text → Node → Type 0
LaidNodeText t x = LaidNodeTextAs true t x
