-- The states to which the builder's methods bring it, in terms of the machine, and what is not sliced there yet.
use Rattle.std.specs.Prelude.{◌≡◌, ℕ, ◌+◌, [], Option, Some, None, Result, OnOk}
use Rattle.kdl_text.specs.Chars.{Text}
use Rattle.kdl_text.specs.Internal.Here.{Position}
use Rattle.kdl_text.specs.Spans.{bytes}
use Rattle.kdl_syntax.specs.Tokens.{Token}
use Rattle.kdl_syntax.specs.declared.control.Phase.{Phase}
use Rattle.kdl_syntax.specs.declared.lexer.LexFailure.{LexFailure}
use Rattle.kdl_syntax.specs.declared.token_span.TokenSpan.{TokenSpan}
use Rattle.kdl_entry.specs.Internal.Counted.{Recounted, Sliced, Within}
use Rattle.kdl_entry.specs.Internal.Parts.{TypeParts}
use Rattle.kdl_entry.specs.Places.{between}
use Rattle.kdl_entry.specs.Tree.{Identifier}
use Rattle.kdl_grammar.specs.Internal.Machine as machine
use Rattle.kdl_grammar.specs.Internal.Machine.{Under, State, at}
use Rattle.kdl_grammar.specs.Tree.{Node, Nodes, Children, Document}
use Rattle.kdl_parser.specs.Internal.Answered.{Finished}
use Rattle.kdl_parser.specs.Internal.Building.{under_view, nodes_now, frames_view, node_now, in_phase, phase_now, state_view, Did}
use Rattle.kdl_parser.specs.Internal.Counted.{unsliced, unsliced_in, SlicedOn}
use Rattle.kdl_parser.specs.declared.builder.Builder.{Builder}
use Rattle.kdl_parser.specs.declared.builder.dropping.Dropped.TheVariants.{Nothing}
use Rattle.kdl_parser.specs.declared.node_parts.DocumentParts.{DocumentParts}

-- the machine's step at the token k
abbrev pub step_at : {N : Type 0} → (N → Node) → Builder N → Token → TokenSpan → Option State
step_at tree b k span = machine.step b.cursor.text (state_view tree b) k span.start.rest span.end.rest

-- its step in the phase p of the builder
abbrev pub step_in : {N : Type 0} → (N → Node) → Builder N → Phase → Token → TokenSpan → Option State
step_in tree b p k span = machine.step b.cursor.text (in_phase tree b (phase_now tree b p)) k span.start.rest span.end.rest

-- the nodes, and after them the node u with the block k after this text: the token is its terminator
abbrev pub ended_node : {N : Type 0} → (N → Node) → Builder N → Under → Children → Text → TokenSpan → Option Nodes
ended_node tree b u k before span =
    machine.ended (machine.closed b.cursor.text (Some u) k before (between b.from.rest span.start.rest) (between span.start.rest span.end.rest) span.start.rest) (nodes_now tree b)

-- after the name of the current node, which ends at r
abbrev pub node_begun : {N : Type 0} → (N → Node) → Builder N → Option TypeParts → Identifier → Position → State
node_begun tree b ty name r =
    at (machine.in_node (Some (record (under_view b.under) { ty = ty; name = name; entries = [] })) (machine.fresh None)) (nodes_now tree b) (frames_view tree b) r.rest

-- the document if the text ends here
abbrev pub document_now : {N : Type 0} → (N → Node) → Builder N → Option Document
document_now tree b = machine.finish b.cursor.text (state_view tree b)

-- the document of the nodes, if no block is open
abbrev pub document_of_nodes : {N : Type 0} → (N → Node) → Builder N → Option Document
document_of_nodes tree b = machine.at_end b.cursor.text (nodes_now tree b) (frames_view tree b) b.from.rest

-- outside of what is slashdashed, where the place that begins at t ends at s
pub record Ready {N : Type 0} (b : Builder N) (t s : Position) : Type 0 where
  pub live : b.dropped ≡ Nothing
  pub from : Within b.cursor t s

-- the pending string became an argument
pub record Settles {N E : Type 0} (old : Builder N) (result : Result (Unit {0}) E) (new : Builder N) : Type 0 where
  pub under : OnOk result (under_view new.under ≡ node_now old)
  pub rest : OnOk result (new ≡ record old { under = record old.under { entries = new.under.entries }; waiting = None })
  pub same : Recounted old.cursor new.cursor

-- the text between two places was sliced, and nothing else changed
pub record Slices {N A E : Type 0} (from to : Position) (old : Builder N) (result : Result A E) (new : Builder N) : Type 0 where
  pub rest : new ≡ record old { cursor = new.cursor }
  pub same : Recounted old.cursor new.cursor
  pub sliced : OnOk result (Sliced (bytes from.rest) (bytes to.rest) old.cursor.steps new.cursor.steps)

-- the current node, which ends at r, was appended: these are the nodes
pub record Appends {N E : Type 0} (tree : N → Node) (nodes : Option Nodes) (r : Position) (old : Builder N) (result : Result (Unit {0}) E) (new : Builder N) : Type 0 where
  pub is : OnOk result (nodes_now tree new ≡ nodes)
  pub rest : OnOk result (new ≡ record old { cursor = new.cursor; under = new.under; block = new.block; nodes = new.nodes })
  pub same : Recounted old.cursor new.cursor
  pub sliced : OnOk result (Sliced (bytes old.from.rest) (bytes r.rest) old.cursor.steps new.cursor.steps)

-- between nodes, directly after one
pub record AfterNode {N : Type 0} (b : Builder N) (s : Position) : Type 0 where
  pub live : b.dropped ≡ Nothing
  pub from : b.from ≡ s
  pub unsliced : unsliced b ≡ bytes b.from.rest

-- a step at a token, given the machine's result o: the cursor stays, and of the n bytes that were not sliced yet all may have been sliced but those that are still not
pub record Steps {N : Type 0} (tree : N → Node) (o : Option State) (n : ℕ) (old : Builder N) (result : Result (Unit {0}) LexFailure) (new : Builder N) : Type 0 where
  pub did : Did o result (state_view tree new)
  pub same : Recounted old.cursor new.cursor
  pub sliced : SlicedOn result n (unsliced new) old.cursor.steps new.cursor.steps

-- the end of the text, given the machine's document o: of the n bytes that were not sliced yet all may have been
pub record Ends {N : Type 0} (tree : N → Node) (o : Option Document) (n : ℕ) (old : Builder N) (result : Result (DocumentParts N) LexFailure) (new : Builder N) : Type 0 where
  pub finished : Finished tree o result
  pub same : Recounted old.cursor new.cursor
  pub sliced : SlicedOn result n 0 old.cursor.steps new.cursor.steps

-- what the token k did in the phase p of the builder
abbrev pub TakesIn : {N : Type 0} → (N → Node) → Phase → Token → TokenSpan → Builder N → Result (Unit {0}) LexFailure → Builder N → Type 0
TakesIn tree p k span old result new = Steps tree (step_in tree old p k span) (unsliced_in p (bytes old.from.rest) (bytes old.parts.from.rest)) old result new

-- what the token k did, given the machine's step
abbrev pub TakesToken : {N : Type 0} → (N → Node) → Builder N → Token → TokenSpan → Result (Unit {0}) LexFailure → Builder N → Type 0
TakesToken tree old k span result new = Steps tree (step_at tree old k span) (unsliced old) old result new

-- the same after a look at the token
abbrev pub TakesTurn : {N : Type 0} → (N → Node) → Builder N → Token → TokenSpan → Result (Unit {0}) LexFailure → Builder N → Type 0
TakesTurn tree old k span result new = Steps tree (step_at tree old k span) (unsliced old + 1) old result new
