-- A token's event brings the builder where the machine's step does.
use Rattle.std.proofs.Common.{◌≡◌, ℕ, true, List, ◌++◌, Option, Some, None, Result, refl, sym, ap, subst, ◌∙◌}
use Rattle.kdl_text.specs.Chars.{Text}
use Rattle.kdl_text.specs.Spans.{bytes}
use Rattle.kdl_syntax.specs.Control.{event_of}
use Rattle.kdl_syntax.specs.declared.events.Event.{Event}
use Rattle.kdl_syntax.specs.declared.events.Event.TheVariants.{Name as NodeName}
use Rattle.kdl_entry.proofs.Slicing.Between.{is_between}
use Rattle.kdl_entry.specs.Places.{between}
use Rattle.kdl_grammar.specs.Internal.Machine.{Under, Frame, State, at, in_node, fresh, spaced, step, Pending, pending}
use Rattle.kdl_grammar.specs.Tree.{Node, Nodes}
use Rattle.kdl_syntax.specs.Internal.Handed.{kind_view}
use Rattle.kdl_syntax.specs.Tokens.{Token, space, equals, string}
use Rattle.kdl_syntax.specs.declared.lexer.LexFailure.{LexFailure}
use Rattle.kdl_syntax.specs.declared.lexer.TokenKind.{TokenKind}
use Rattle.kdl_syntax.specs.declared.lexer.TokenKind.TheVariants.{String as StringKind, Value as ValueKind}
use Rattle.kdl_syntax.specs.declared.token_span.TokenSpan.{TokenSpan}
use Rattle.kdl_parser.specs.Internal.Building.{under_view, node_now, pending_now, nodes_now, frames_view, state_view, state_by, reading_view, Did}
use Rattle.kdl_parser.specs.Internal.Counted.{unsliced, unsliced_at, unsliced_in, SlicedOn}
use Rattle.kdl_parser.specs.Internal.Events.{event_step, mark_step, is_building, is_live, unsliced_before, Acts}
use Rattle.kdl_parser.specs.Internal.States.{step_at, step_in, TakesIn, TakesToken}
use Rattle.kdl_parser.specs.declared.builder.Builder.{Builder}
use Rattle.kdl_parser.specs.declared.builder.dropping.Dropped.{Dropped}
use Rattle.kdl_parser.specs.declared.builder.dropping.Dropped.TheVariants.{Nothing}
use Rattle.kdl_syntax.specs.declared.control.{Spot.TheVariants.Fresh, Spot.TheVariants.Spaced, Phase.Phase, Word.TheVariants.MayBeKey, Owner.TheVariants.Name}
use Rattle.kdl_syntax.specs.declared.control.Phase.TheVariants.{Gap, NodeSlashdash, TypeOpen, TypeName, TypeDone, InNode, EntrySlashdash, BlockSlashdash, KeptSlashdash}

-- the state after the event, if there is one
abbrev pub stepped_by : {N : Type 0} → (N → Node) → Builder N → Option Event → Token → TokenSpan → Option State
stepped_by tree b None k span = None
stepped_by tree b (Some e) k span = event_step tree b e k span

-- a key goes on to its `=` directly and after spaces
same_equals : (whole : Text) (u : Option Under) (o : Option Pending) (l : Option Nodes) (fs : List Frame) (from s r : Text) → step whole (at (in_node u (spaced o)) l fs from) equals s r ≡ step whole (at (in_node u (fresh o)) l fs from) equals s r
same_equals whole u None l fs from s r = refl
same_equals whole u (Some (pending c k a)) l fs from s r = refl

module _ {N : Type 0} (tree : N → Node) (b : Builder N) (span : TokenSpan) where
  in_live : (p : Phase) (k : Token) → is_live p ≡ true → step_in tree b p k span ≡ stepped_by tree b (event_of p k) k span
  in_live NodeSlashdash k e = absurd cc
  in_live EntrySlashdash k e = absurd cc
  in_live BlockSlashdash k e = absurd cc
  in_live KeptSlashdash k e = absurd cc
  in_live (InNode (Spaced MayBeKey)) equals e =
      same_equals b.cursor.text (Some (node_now b)) (pending_now MayBeKey b.cursor.text b.from.rest b.waiting (under_view b.under)) (nodes_now tree b) (frames_view tree b) b.from.rest span.start.rest span.end.rest
  in_live (InNode (Fresh MayBeKey)) space e = refl
  in_live (TypeOpen Name) space e = refl
  in_live (TypeName Name) space e = refl
  in_live (TypeDone Name) space e = refl
  in_live p space e = refl
  in_live p k e = refl

-- what is not sliced before the token
abbrev unsliced_by : Option Event → Phase → ℕ → ℕ → ℕ
unsliced_by None p n m = unsliced_in p n m
unsliced_by (Some e) p n m = unsliced_before e n m

same_unsliced : (n m : ℕ) (p : Phase) (k : Token) → unsliced_by (event_of p k) p n m ≡ unsliced_in p n m
same_unsliced n m (TypeDone Name) space = refl
same_unsliced n m (InNode (Fresh MayBeKey)) space = refl
same_unsliced n m (InNode (Spaced MayBeKey)) space = refl
same_unsliced n m p space = refl
same_unsliced n m p k = refl

-- outside of what is slashdashed
is_nothing : (d : Dropped) (p : Phase) → is_building d p ≡ true → d ≡ Nothing
is_nothing Nothing p e = refl
is_nothing d p e = absurd cc

is_phase_live : (d : Dropped) (p : Phase) → is_building d p ≡ true → is_live p ≡ true
is_phase_live Nothing p e = e
is_phase_live d p e = absurd cc

module _ {N : Type 0} (tree : N → Node) (b b' : Builder N) (span : TokenSpan) (e : Event) (result : Result (Unit {0}) LexFailure) where
  -- the machine's step at the token
  token_is : (k : Token) (o : Option Event) → b.dropped ≡ Nothing → is_live b.phase ≡ true → o ≡ event_of b.phase k → step_at tree b k span ≡ stepped_by tree b o k span
  token_is k o d l f =
      ap (λ (z : Dropped). step b.cursor.text (state_by tree b (reading_view z)) k span.start.rest span.end.rest) d ∙ in_live tree b span b.phase k l ∙ ap (λ (z : Option Event). stepped_by tree b z k span) (sym f)

  unsliced_is : (k : Token) → b.dropped ≡ Nothing → Some e ≡ event_of b.phase k → unsliced_before e (bytes b.from.rest) (bytes b.parts.from.rest) ≡ unsliced b
  unsliced_is k d f =
      ap (λ (z : Option Event). unsliced_by z b.phase (bytes b.from.rest) (bytes b.parts.from.rest)) f ∙ same_unsliced (bytes b.from.rest) (bytes b.parts.from.rest) b.phase k
      ∙ ap (λ (z : Dropped). unsliced_at z b.phase (bytes b.from.rest) (bytes b.parts.from.rest)) (sym d)

  -- what a token of an event does
  takes : (k : Token) → is_building b.dropped b.phase ≡ true → Some e ≡ event_of b.phase k → Acts tree e (event_step tree b e k span) b result b' → TakesToken tree b k span result b'
  takes k i f x = let d = is_nothing b.dropped b.phase i in record {
    did = subst (λ (o : Option State). Did o result (state_view tree b')) (sym (token_is k (Some e) d (is_phase_live b.dropped b.phase i) f)) x.did;
    same = x.same;
    sliced = subst (λ (n : ℕ). SlicedOn result n (unsliced b') b.cursor.steps b'.cursor.steps) (unsliced_is k d f) x.sliced;
  }

  pub takes_as : (k k' : TokenKind) (o : Option State) → is_building b.dropped b.phase ≡ true → Some e ≡ event_of b.phase (kind_view k) → k ≡ k' → o ≡ event_step tree b e (kind_view k') span → Acts tree e o b result b' → TakesToken tree b (kind_view k) span result b'
  takes_as k k' o h f i j x = takes (kind_view k) h f (subst (λ (z : TokenKind). Acts tree e (event_step tree b e (kind_view z) span) b result b') (sym i) (subst (λ (z : Option State). Acts tree e z b result b') j x))

-- a bare string between nodes is the name of a node
pub takes_name : {N : Type 0} (tree : N → Node) (b b' : Builder N) (span : TokenSpan) (result : Result (Unit {0}) LexFailure) (w : Text) → is_building b.dropped b.phase ≡ true → b.phase ≡ Gap → span.start.rest ≡ w ++ span.end.rest
    → TakesIn tree Gap (string (between span.start.rest span.end.rest)) span b result b' → TakesToken tree b (string w) span result b'
takes_name tree b b' span result w i p e x =
    takes tree b b' span NodeName result (string w) i (sym (ap (λ (z : Phase). event_of z (string w)) p))
    (subst (λ (v : Text). TakesIn tree Gap (string v) span b result b') (sym (is_between span.start.rest span.end.rest w e)) x)

-- a token that is neither a string nor a value
pub is_mark : {N : Type 0} (tree : N → Node) (b : Builder N) (e : Event) (span : TokenSpan) (k : TokenKind) → ((x : _) → k ≡ StringKind x → ⊥) → ((x : _) → k ≡ ValueKind x → ⊥) → mark_step tree b e span ≡ event_step tree b e (kind_view k) span
is_mark tree b e span (StringKind x) f g = absurd (f x refl)
is_mark tree b e span (ValueKind x) f g = absurd (g x refl)
is_mark tree b e span k f g = refl
