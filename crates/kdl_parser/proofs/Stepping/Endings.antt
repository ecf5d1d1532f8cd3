-- The document at the end of the text, after the current node.
use Rattle.std.proofs.Common.{◌≡◌, List, [], Option, Some, Result, refl, sym, ap, subst, ◌∙◌}
use Rattle.kdl_text.specs.Chars.{Text}
use Rattle.kdl_text.specs.Internal.Here.{Position}
use Rattle.kdl_syntax.specs.declared.control.Phase.TheVariants.{InNode, Kept as KeptPhase}
use Rattle.kdl_syntax.specs.Tokens.{newline}
use Rattle.kdl_syntax.specs.declared.control.Spot.{Spot}
use Rattle.kdl_syntax.specs.declared.control.Spot.TheVariants.{Fresh, Spaced, Later}
use Rattle.kdl_syntax.specs.declared.token_span.TokenSpan.{TokenSpan}
use Rattle.kdl_entry.specs.Places.{between}
use Rattle.kdl_syntax.specs.declared.lexer.LexFailure.{LexFailure}
use Rattle.kdl_grammar.specs.Internal.Machine.{Under, Kept, Frame, State, at, at_end, closed, closed_kept, ended, finish}
use Rattle.kdl_grammar.specs.Tree.{Node, Nodes, Document, no_children}
use Rattle.kdl_parser.specs.Internal.Answered.{Finished}
use Rattle.kdl_parser.specs.Internal.Building.{state_view, state_by, reading_view, in_phase, phase_now, node_now, kept_now, nodes_now, frames_view}
use Rattle.kdl_parser.specs.Internal.States.{document_now, document_of_nodes, step_in}
use Rattle.kdl_parser.specs.declared.builder.Builder.{Builder}
use Rattle.kdl_parser.specs.declared.builder.dropping.Dropped.{Dropped}
use Rattle.kdl_parser.specs.declared.builder.dropping.Dropped.TheVariants.{Nothing}
use Rattle.kdl_parser.specs.declared.node_parts.DocumentParts.{DocumentParts}
use Rattle.kdl_parser.proofs.Stepping.Origins.{between_none}

-- the document of the nodes of a state, if no block is open
abbrev nodes_of : Text → State → Option Document
nodes_of whole (at p l fs from) = at_end whole l fs from

after : (whole : Text) {x y : State} → Some x ≡ Some y → nodes_of whole y ≡ nodes_of whole x
after whole e = cc

of_state : {N : Type 0} (tree : N → Node) (m : Builder N) → m.dropped ≡ Nothing → document_of_nodes tree m ≡ nodes_of m.cursor.text (state_view tree m)
of_state tree m e = ap (λ (z : Dropped). nodes_of m.cursor.text (state_by tree m (reading_view z))) (sym e)

-- a node without a block ends with the text
ends_at : (whole from here : Text) (u : Under) (l : Option Nodes) (fs : List Frame) → here ≡ []
    → at_end whole (ended (closed whole (Some u) no_children [] (between from here) (between here here) here) l) fs here ≡ at_end whole (ended (closed whole (Some u) no_children [] (between from []) [] []) l) fs []
ends_at whole from here u l fs e =
    ap (λ (z : Text). at_end whole (ended (closed whole (Some u) no_children [] (between from z) (between z z) z) l) fs z) e
    ∙ ap (λ (q : Text). at_end whole (ended (closed whole (Some u) no_children [] (between from []) q []) l) fs []) (between_none [])

kept_ends_at : (whole from here : Text) (x : Kept) (l : Option Nodes) (fs : List Frame) → here ≡ []
    → at_end whole (ended (closed_kept whole (Some x) (between from here) (between here here) here) l) fs here ≡ at_end whole (ended (closed_kept whole (Some x) (between from []) [] []) l) fs []
kept_ends_at whole from here x l fs e =
    ap (λ (z : Text). at_end whole (ended (closed_kept whole (Some x) (between from z) (between z z) z) l) fs z) e
    ∙ ap (λ (q : Text). at_end whole (ended (closed_kept whole (Some x) (between from []) q []) l) fs []) (between_none [])

in_node_ends : {N : Type 0} (tree : N → Node) (b : Builder N) (spot : Spot)
    → finish b.cursor.text (in_phase tree b (phase_now tree b (InNode spot))) ≡ at_end b.cursor.text (ended (closed b.cursor.text (Some (node_now b)) no_children [] (between b.from.rest []) [] []) (nodes_now tree b)) (frames_view tree b) []
in_node_ends tree b (Fresh w) = refl
in_node_ends tree b (Spaced w) = refl
in_node_ends tree b Later = refl

now_is : {N : Type 0} (tree : N → Node) (b : Builder N) → b.dropped ≡ Nothing → document_now tree b ≡ finish b.cursor.text (in_phase tree b (phase_now tree b b.phase))
now_is tree b e = ap (λ (z : Dropped). finish b.cursor.text (state_by tree b (reading_view z))) e

pub node_finishes : {N : Type 0} (tree : N → Node) (b m : Builder N) (spot : Spot) (here : Position) (span : TokenSpan) (result : Result (DocumentParts N) LexFailure)
    → b.dropped ≡ Nothing → b.phase ≡ InNode spot → here.rest ≡ [] → span.start ≡ here → span.end ≡ here → step_in tree b (InNode Later) newline span ≡ Some (state_view tree m) → m.dropped ≡ Nothing → m.cursor.text ≡ b.cursor.text
    → Finished tree (document_of_nodes tree m) result → Finished tree (document_now tree b) result
node_finishes tree b m spot here span result d p e i j s d' w f =
    let x : document_of_nodes tree m ≡ _ = of_state tree m d' ∙ ap (λ z. nodes_of z (state_view tree m)) w ∙ after b.cursor.text s in
    let y = ends_at b.cursor.text b.from.rest here.rest (node_now b) (nodes_now tree b) (frames_view tree b) e in
    let z : document_now tree b ≡ _ = now_is tree b d ∙ ap (λ q. finish b.cursor.text (in_phase tree b (phase_now tree b q))) p ∙ in_node_ends tree b spot in
    subst (λ o. Finished tree o result) (x ∙ rw (i, j) y ∙ sym z) f

pub kept_finishes : {N : Type 0} (tree : N → Node) (b m : Builder N) (here : Position) (span : TokenSpan) (result : Result (DocumentParts N) LexFailure)
    → b.dropped ≡ Nothing → b.phase ≡ KeptPhase → here.rest ≡ [] → span.start ≡ here → span.end ≡ here → step_in tree b KeptPhase newline span ≡ Some (state_view tree m) → m.dropped ≡ Nothing → m.cursor.text ≡ b.cursor.text
    → Finished tree (document_of_nodes tree m) result → Finished tree (document_now tree b) result
kept_finishes tree b m here span result d p e i j s d' w f =
    let x : document_of_nodes tree m ≡ _ = of_state tree m d' ∙ ap (λ z. nodes_of z (state_view tree m)) w ∙ after b.cursor.text s in
    let y = kept_ends_at b.cursor.text b.from.rest here.rest (kept_now tree b) (nodes_now tree b) (frames_view tree b) e in
    let z : document_now tree b ≡ _ = now_is tree b d ∙ ap (λ q. finish b.cursor.text (in_phase tree b (phase_now tree b q))) p in
    subst (λ o. Finished tree o result) (x ∙ rw (i, j) y ∙ sym z) f
