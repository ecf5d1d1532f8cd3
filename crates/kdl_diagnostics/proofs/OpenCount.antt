-- How many blocks are open after a token, and what is missing where a text may not end.
use Rattle.std.proofs.Common.{◌≡◌, ◌+◌, ◌-◌, ℕ, Bool, true, false, List, [], ◌∷◌, length, Option, Some, None, option_map, refl, subst, arith}
use Rattle.kdl_syntax.specs.Tokens.{Token, space, newline, string, left, opening, closing}
use Rattle.kdl_syntax.specs.Control as c
use Rattle.kdl_syntax.specs.declared.control.{Spot.TheVariants.Fresh, Spot.TheVariants.Spaced, Frame.Frame, Word.TheVariants.MayBeKey, Owner.TheVariants.Name as OfName}
use Rattle.kdl_syntax.specs.declared.control.Phase.TheVariants.{Gap, NodeSlashdash, TypeOpen, TypeName, TypeDone, InNode, Property, EntrySlashdash, BlockSlashdash, Kept, KeptSlashdash}
use Rattle.kdl_syntax.specs.declared.control.Frame.TheVariants.{Node as NodeBlock, Dropped as DroppedBlock, Later as LaterBlock}
use Rattle.kdl_syntax.specs.EntryControl as e
use Rattle.kdl_syntax.specs.declared.entry_control.EntryControl.{EntryControl, TheVariants.Dropping, TheVariants.Under}
use Rattle.kdl_syntax.specs.NodeControl.{NodeControl, in_text, with_begun, between_nodes, node_step}
use Rattle.kdl_diagnostics.specs.Internal.Noted.{Counts}
use Rattle.kdl_diagnostics.specs.Internal.Outsets.{depth, open_blocks}
use Rattle.kdl_diagnostics.specs.TextControl.{TextControl, in_document, in_node, in_entry, in_identifier, text_step}

abbrev Of : {S : Type 0} → (S → Type 0) → Option S → Type 0
Of P None = Unit {0}
Of P (Some d) = P d

popped_count : (fs : List Frame) → Of (λ d. open_blocks d ≡ length fs - 1) (c.popped fs)
popped_count [] = tt
popped_count (NodeBlock ∷ fs) = omega arith
popped_count (DroppedBlock ∷ fs) = omega arith
popped_count (LaterBlock ∷ fs) = omega arith

opened_count : (f : Frame) (fs : List Frame) → length (f ∷ fs) ≡ length fs + 1
opened_count f fs = omega arith

step_count : (m : c.Control) (k : Token) → Of (λ d. Counts k (open_blocks m) (open_blocks d)) (c.step m k)
step_count (c.at (InNode (Fresh MayBeKey)) fs) opening = opened_count NodeBlock fs
step_count (c.at (InNode (Spaced MayBeKey)) fs) opening = opened_count NodeBlock fs
step_count (c.at Gap fs) closing = popped_count fs
step_count (c.at (InNode p) fs) closing = popped_count fs
step_count (c.at Kept fs) closing = popped_count fs
step_count (c.at (InNode p) fs) opening = opened_count NodeBlock fs
step_count (c.at EntrySlashdash fs) opening = opened_count DroppedBlock fs
step_count (c.at BlockSlashdash fs) opening = opened_count DroppedBlock fs
step_count (c.at KeptSlashdash fs) opening = opened_count LaterBlock fs
step_count (c.at NodeSlashdash fs) opening = tt
step_count (c.at (TypeOpen b) fs) opening = tt
step_count (c.at (TypeName b) fs) opening = tt
step_count (c.at (TypeDone OfName) fs) opening = tt
step_count (c.at (TypeDone b) fs) opening = tt
step_count (c.at Property fs) opening = tt
step_count (c.at p fs) k = search

begun_count : (P : ℕ → Type 0) (b : Bool) (o : Option c.Control) → Of (λ d. P (open_blocks d)) o → Of (λ d. P (depth (in_node d))) (with_begun b o)
begun_count P b None h = tt
begun_count P b (Some d) h = h

between_count : (b : Bool) (k : Token) → Of (λ d. Counts k 0 (depth (in_node d))) (between_nodes b k)
between_count true space = refl
between_count true newline = refl
between_count true _ = tt
between_count false (string v) = refl
between_count false left = refl
between_count false k = begun_count (Counts k 0) false (c.step (c.at Gap []) k) (step_count (c.at Gap []) k)

node_count : (m : NodeControl) (k : Token) → Of (λ d. Counts k (depth (in_node m)) (depth (in_node d))) (node_step m k)
node_count (in_text b (c.at Gap [])) k = between_count b k
node_count (in_text b (c.at p fs)) k = begun_count (Counts k (length fs)) b (c.step (c.at p fs) k) (step_count (c.at p fs) k)

-- in the text of an entry none opens
not_opened : (m : EntryControl) → e.entry_step m opening ≡ None
not_opened (Dropping (InNode (Spaced b))) = refl
not_opened (Dropping p) = refl
not_opened (Under (InNode q)) = refl
not_opened (Under p) = refl
not_opened _ = refl

always : {S : Type 0} {P : Type 0} (o : Option S) → P → Of (λ d. P) o
always None h = tt
always (Some d) h = h

entry_count : (m : EntryControl) (k : Token) → Of (λ d. Counts k 0 0) (e.entry_step m k)
entry_count m opening = rw (not_opened m) tt
entry_count m closing = always (e.entry_step m closing) refl
entry_count m k = always (e.entry_step m k) refl

lifted : {S : Type 0} (wrap : S → TextControl) (P : TextControl → Type 0) (o : Option S) → Of (λ d. P (wrap d)) o → Of P (option_map wrap o)
lifted wrap P None h = tt
lifted wrap P (Some d) h = h

text_count : (m : TextControl) (k : Token) → Of (λ d. Counts k (depth m) (depth d)) (text_step m k)
text_count (in_document m) k = lifted in_document (λ d. Counts k (open_blocks m) (depth d)) (c.step m k) (step_count m k)
text_count (in_node m) k = lifted in_node (λ d. Counts k (depth (in_node m)) (depth d)) (node_step m k) (node_count m k)
text_count (in_entry m) k = lifted in_entry (λ d. Counts k 0 (depth d)) (e.entry_step m k) (entry_count m k)
text_count (in_identifier false) (string v) = refl
text_count (in_identifier _) _ = tt

-- the blocks that are open after a token that is taken
pub counted : (m d : TextControl) (k : Token) → text_step m k ≡ Some d → Counts k (depth m) (depth d)
counted m d k f = subst (Of (λ z. Counts k (depth m) (depth z))) f (text_count m k)
