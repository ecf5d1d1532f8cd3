-- Nodes that are a whole text, and what is returned on one.
use Rattle.std.specs.Prelude.{◌≡◌, List, [], ◌∷◌, Option, Some, None, Result, Ok, Err}
use Rattle.kdl_text.specs.Chars.{Text}
use Rattle.kdl_text.specs.declared.span.SourceSpan.{SourceSpan}
use Rattle.kdl_syntax.specs.declared.lexer.LexFailure.{LexFailure}
use Rattle.kdl_syntax.specs.declared.lexer.LexFailure.TheVariants.{Faulty, Memory}
use Rattle.kdl_grammar.specs.Data as data'
use Rattle.kdl_grammar.specs.Grammar.{IsNodeText}
use Rattle.kdl_grammar.specs.Laid.{LaidNodeText}
use Rattle.kdl_grammar.specs.Internal.Machine.{initial, Runs}
use Rattle.kdl_grammar.specs.Tree.{NodeFormat, DocumentFormat, Node, node, Document, document, Nodes, none, first}

-- a format with another text after the terminator
abbrev pub trailed : Text → Option NodeFormat → Option NodeFormat
trailed t None = None
trailed t (Some f) = Some (record f { trailing = t })

-- the node with the text after its terminator, and the span of the whole text
abbrev pub with_text_after : Node → Text → SourceSpan → Node
with_text_after (node h k) t at = node (record h { format = trailed t h.format; span = at }) k

-- what the machine returns on the text
abbrev pub RunsOnText : Text → Document → Type 0
RunsOnText t d = Runs t d (initial t) t

-- the machine returns a document of these nodes, with this format
abbrev pub RunsToNodes : Text → Option DocumentFormat → Nodes → Type 0
RunsToNodes t f ns = (at : SourceSpan) × RunsOnText t (document f at ns)

-- the machine returns a document of the one node, with this text after it
abbrev pub ReadsOne : Text → Node → Text → Type 0
ReadsOne t x trailing = (leading : Text) × RunsToNodes t (Some (record { leading = leading; trailing = trailing })) (first x none)

-- the text is not a node; an allocation failure says nothing
abbrev pub NoNode : Text → LexFailure → Type 0
NoNode t Faulty = (x : data'.Node) → IsNodeText t x → ⊥
NoNode t Memory = Unit {0}

-- the only node, or none if there are more or none
abbrev pub IsOnly : {N : Type 0} → List N → Option N → Type 0
IsOnly ns (Some n) = ns ≡ n ∷ []
IsOnly {N = N} ns None = (n : N) → ns ≡ n ∷ [] → ⊥

-- the node that the text is, located in it; or the text is not a node
abbrev pub AnswersNodeText : {N : Type 0} → (N → Node) → Text → Result N LexFailure → Type 0
AnswersNodeText tree t (Ok n) = LaidNodeText t (tree n)
AnswersNodeText tree t (Err e) = NoNode t e
