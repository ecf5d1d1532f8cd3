-- Inside what is slashdashed the machine's step is that of the machine without data.
use Rattle.std.proofs.Common.{◌≡◌, ℕ, true, false, reverse, List, [], ◌∷◌, Option, Some, None, option_map, Result, Ok, Err, refl, sym, ap, subst, ◌∙◌}
use Rattle.kdl_text.specs.Chars.{Text}
use Rattle.kdl_syntax.specs.Control as c
use Rattle.kdl_syntax.specs.declared.control.{Spot.TheVariants.Fresh, Spot.TheVariants.Spaced, Frame.TheVariants.Node as NodeBlock, Phase.Phase, Frame.Frame as ControlFrame, Word.TheVariants.MayBeKey, Word.TheVariants.NoKey, Owner.TheVariants.Name as OfName}
use Rattle.kdl_syntax.specs.declared.control.Phase.TheVariants.{Gap, NodeSlashdash, TypeOpen, TypeName, TypeDone, InNode, EntrySlashdash, BlockSlashdash, Kept, KeptSlashdash}
use Rattle.kdl_syntax.specs.Tokens.{Token, space, string, closing}
use Rattle.kdl_grammar.specs.Internal.Machine.{Under, Kept as MachineKept, Frame, State, gap, popped, step, finish}
use Rattle.kdl_grammar.specs.Tree.{Node, Nodes}
use Rattle.kdl_syntax.specs.declared.token_span.TokenSpan.{TokenSpan}
use Rattle.kdl_parser.specs.Internal.Building.{under_view, phase_after, phase_placed, reading_view, state_by, state_view, in_phase, phase_now, node_now, kept_now, nodes_now, frames_view}
use Rattle.kdl_syntax.specs.Internal.Views.{control_view}
use Rattle.kdl_parser.specs.Internal.Counted.{unsliced_at, unsliced_in}
use Rattle.kdl_parser.specs.Internal.Events.{is_live}
use Rattle.kdl_parser.specs.Internal.States.{document_now, TakesToken}
use Rattle.kdl_parser.specs.Internal.Turns.{IsLike, Leaves, TakesLike}
use Rattle.kdl_parser.specs.declared.builder.Builder.{Builder}
use Rattle.kdl_parser.specs.declared.builder.growing.Growing.{Growing}
use Rattle.kdl_entry.specs.declared.entry.KdlEntry.{KdlEntry}
use Rattle.kdl_syntax.specs.declared.lexer.LexFailure.{LexFailure}
use Rattle.kdl_syntax.specs.declared.lexer.LexFailure.TheVariants.{Faulty}
use Rattle.kdl_text.specs.Spans.{bytes}
use Rattle.kdl_parser.specs.declared.builder.dropping.Dropped.{Dropped}
use Rattle.kdl_parser.specs.declared.builder.dropping.Dropped.TheVariants.{Nothing, Node as DroppedNode, Part as DroppedPart}
use Rattle.kdl_parser.proofs.Stepping.PlacesAhead.{state_from}
use Rattle.kdl_parser.proofs.Stepping.StepsDone.{carried, none_sliced, unmoved}
use Rattle.kdl_parser.specs.Internal.Dropping.{frames, inside, is_node_over, is_before_node, Reading, nothing, node, part, is_reading, is_over, next, reading_state, after_slashdash, Begun}

-- the step inside is the step without data
abbrev Steps : Text → Option Under → Option MachineKept → Option Nodes → List Frame → Text → c.Control → Token → Text → Text → Type 0
Steps whole u x l fs from d k s r = step whole (inside u x l fs from d) k s r ≡ option_map (inside u x l fs from) (c.step d k)

-- a function of what another one returns
through : {A B C : Type 0} (f : B → C) (g : A → B) (o : Option A) → option_map (λ (a : A). f (g a)) o ≡ option_map f (option_map g o)
through f g None = refl
through f g (Some a) = refl

module _ (whole : Text) (l : Option Nodes) (fs : List Frame) (from : Text) where
  -- at the `}` of an inner block
  at_block_end : (u : Option Under) (g : ControlFrame) (gs : List ControlFrame) (x : Option MachineKept) (s r : Text)
      → popped whole None (frames u x l fs (g ∷ gs)) from s r ≡ option_map (inside u x l fs from) (c.popped (g ∷ gs))
  at_block_end u NodeBlock [] None s r = refl
  at_block_end u g (h ∷ gs) x s r = refl
  at_block_end u g gs x s r = refl

  -- in an inner block
  in_block : (u : Option Under) (x : Option MachineKept) (p : Phase) (g : ControlFrame) (gs : List ControlFrame) (k : Token) (s r : Text) → Steps whole u x l fs from (c.at p (g ∷ gs)) k s r
  in_block u x (TypeOpen OfName) g gs space s r = refl
  in_block u x (TypeName OfName) g gs space s r = refl
  in_block u x (TypeDone OfName) g gs space s r = refl
  in_block u x (InNode (Fresh NoKey)) g gs space s r = refl
  in_block u x (InNode (Spaced NoKey)) g gs space s r = refl
  in_block u x Gap g gs closing s r = at_block_end u g gs x s r
  in_block u x Kept g gs closing s r = at_block_end u g gs x s r
  in_block u x (InNode p) g gs closing s r = at_block_end u g gs x s r
  in_block u x p g gs space s r = refl
  in_block u x p g gs k s r = refl

  -- in a slashdashed node, outside of its blocks
  in_dropped_node : (p : Phase) (k : Token) (s r : Text) → is_node_over k (c.at p []) ≡ false → Steps whole None None l fs from (c.at p []) k s r
  in_dropped_node Gap closing s r e = absurd cc
  in_dropped_node Gap k s r e = absurd cc
  in_dropped_node (TypeOpen OfName) space s r e = refl
  in_dropped_node (TypeName OfName) space s r e = refl
  in_dropped_node (TypeDone OfName) space s r e = refl
  in_dropped_node (InNode (Fresh NoKey)) space s r e = refl
  in_dropped_node (InNode (Spaced NoKey)) space s r e = refl
  in_dropped_node Kept closing s r e = absurd cc
  in_dropped_node (InNode p) closing s r e = absurd cc
  in_dropped_node p space s r e = refl
  in_dropped_node p k s r e = refl

  -- in a slashdashed part of a node, outside of its blocks
  in_dropped_part : (u : Under) (x : MachineKept) (p : Phase) (k : Token) (s r : Text) → c.finish (c.at p []) ≡ false → is_before_node (c.at p []) ≡ false → Steps whole (Some u) (Some x) l fs from (c.at p []) k s r
  in_dropped_part u x Gap k s r e f = absurd cc
  in_dropped_part u x NodeSlashdash k s r e f = absurd cc
  in_dropped_part u x (InNode p) k s r e f = absurd cc
  in_dropped_part u x Kept k s r e f = absurd cc
  in_dropped_part u x (TypeOpen OfName) space s r e f = refl
  in_dropped_part u x (TypeName OfName) space s r e f = refl
  in_dropped_part u x (TypeDone OfName) space s r e f = refl
  in_dropped_part u x p space s r e f = refl
  in_dropped_part u x p k s r e f = refl

  -- at a token of what is slashdashed
  reads : (u : Under) (x : MachineKept) (st : State) (d : Reading) (k : Token) (s r : Text) → is_reading d ≡ true → is_over k d ≡ false → Begun d
      → step whole (reading_state u x l fs from st d) k s r ≡ option_map (reading_state u x l fs from st) (next k d)
  reads u x st nothing k s r a e f = absurd cc
  reads u x st (node (c.at p [])) k s r a e f = in_dropped_node p k s r e ∙ through (reading_state u x l fs from st) node (c.step (c.at p []) k)
  reads u x st (node (c.at p (g ∷ gs))) k s r a e f = in_block None None p g gs k s r ∙ through (reading_state u x l fs from st) node (c.step (c.at p (g ∷ gs)) k)
  reads u x st (part (c.at p [])) k s r a e f = in_dropped_part u x p k s r e f ∙ through (reading_state u x l fs from st) part (c.step (c.at p []) k)
  reads u x st (part (c.at p (g ∷ gs))) k s r a e f = in_block (Some u) (Some x) p g gs k s r ∙ through (reading_state u x l fs from st) part (c.step (c.at p (g ∷ gs)) k)

  reads_on : (u : Under) (x : MachineKept) (st : State) (d e : Reading) (k : Token) (s r : Text) → is_reading d ≡ true → is_over k d ≡ false → Begun d → Some e ≡ next k d
      → step whole (reading_state u x l fs from st d) k s r ≡ Some (reading_state u x l fs from st e)
  reads_on u x st d e k s r a b f g = reads u x st d k s r a b f ∙ ap (option_map (reading_state u x l fs from st)) (sym g)

  refuses : (u : Under) (x : MachineKept) (st : State) (d : Reading) (k : Token) (s r : Text) → is_reading d ≡ true → is_over k d ≡ false → Begun d → None ≡ next k d
      → step whole (reading_state u x l fs from st d) k s r ≡ None
  refuses u x st d k s r a b f g = reads u x st d k s r a b f ∙ ap (option_map (reading_state u x l fs from st)) (sym g)

-- a part of a node has begun after its `/-`
begun : (d : Dropped) → Begun (reading_view d)
begun Nothing = tt
begun (DroppedNode d) = tt
begun (DroppedPart p) = p.begun

-- of what is slashdashed nothing is sliced
unsliced_read : (d : Dropped) (p : Phase) (n m : ℕ) → is_reading (reading_view d) ≡ true → unsliced_at d p n m ≡ n
unsliced_read (DroppedNode c) p n m e = refl
unsliced_read (DroppedPart c) p n m e = refl
unsliced_read Nothing p n m e = absurd cc

-- what goes on is slashdashed, so nothing of it is sliced
none_next : (o : Option c.Control) (f : c.Control → Reading) → ((d : c.Control) → f d ≡ nothing → ⊥) → Some nothing ≡ option_map f o → ⊥
none_next None f h e = absurd cc
none_next (Some d) f h e = h d (cc)

still_dropped : (d : Reading) (e : Dropped) (k : Token) (p : Phase) (n m : ℕ) → Some (reading_view e) ≡ next k d → unsliced_at e p n m ≡ n
still_dropped d (DroppedNode c) k p n m e = refl
still_dropped d (DroppedPart c) k p n m e = refl
still_dropped nothing Nothing k p n m e = absurd cc
still_dropped (node d) Nothing k p n m e = absurd (none_next (c.step d k) node (λ x y. cc) e)
still_dropped (part d) Nothing k p n m e = absurd (none_next (c.step d k) part (λ x y. cc) e)

-- the text of a string makes no difference
step_like : (d : c.Control) (v w : Text) → c.step d (string v) ≡ c.step d (string w)
step_like (c.at (TypeDone OfName) fs) v w = refl
step_like (c.at (InNode (Fresh x)) fs) v w = refl
step_like (c.at p fs) v w = refl

next_like : (j k : Token) (d : Reading) → IsLike j k → next k d ≡ next j d
next_like (string v) k nothing (w, e) = refl
next_like (string v) k (node d) (w, e) = rw e (ap (option_map node) (step_like d w v))
next_like (string v) k (part d) (w, e) = rw e (ap (option_map part) (step_like d w v))
next_like j k d e = ap (λ (z : Token). next z d) e

over_like : (j k : Token) (d : Reading) → IsLike j k → is_over k d ≡ is_over j d
over_like (string v) k nothing (w, e) = refl
over_like (string v) k (node d) (w, e) = rw e refl
over_like (string v) k (part d) (w, e) = refl
over_like j k d e = ap (λ (z : Token). is_over z d) e

pub like_same : (k : Token) → IsLike k k
like_same (string v) = (v, refl)
like_same k = refl

module _ {N : Type 0} (tree : N → Node) (b : Builder N) (d : Dropped) (k : Token) (span : TokenSpan) where
  -- a token of what is slashdashed
  drops : is_reading (reading_view b.dropped) ≡ true → is_over k (reading_view b.dropped) ≡ false → next k (reading_view b.dropped) ≡ Some (reading_view d) → TakesToken tree b k span (Ok tt) (record b { dropped = d })
  drops a e f = record {
    did = reads_on b.cursor.text (nodes_now tree b) (frames_view tree b) b.from.rest (node_now b) (kept_now tree b) (in_phase tree b (phase_now tree b b.phase)) (reading_view b.dropped) (reading_view d) k span.start.rest span.end.rest a e (begun b.dropped) (sym f);
    same = unmoved b.cursor;
    sliced = none_sliced {A = Unit {0}} (bytes b.from.rest) _ _ _ (Ok tt) (still_dropped (reading_view b.dropped) d k b.phase _ _ (sym f)) (unsliced_read b.dropped b.phase _ _ a);
  }

  -- a token that may not be there
  drop_refused : is_reading (reading_view b.dropped) ≡ true → is_over k (reading_view b.dropped) ≡ false → next k (reading_view b.dropped) ≡ None → TakesToken tree b k span (Err Faulty) (record b { dropped = d })
  drop_refused a e f = record {
    did = refuses b.cursor.text (nodes_now tree b) (frames_view tree b) b.from.rest (node_now b) (kept_now tree b) (in_phase tree b (phase_now tree b b.phase)) (reading_view b.dropped) k span.start.rest span.end.rest a e (begun b.dropped) (sym f);
    same = unmoved b.cursor;
    sliced = none_sliced {A = Unit {0}} (bytes b.from.rest) (bytes b.from.rest) _ _ (Err Faulty) tt (unsliced_read b.dropped b.phase _ _ a);
  }

  -- the first token after a `/-`
  first_drops : (result : Result (Unit {0}) LexFailure) (new : Builder N) → b.dropped ≡ Nothing → is_live b.phase ≡ false → reading_view d ≡ after_slashdash b.phase → TakesToken tree (record b { dropped = d }) k span result new → TakesToken tree b k span result new
  first_drops result new f l i x =
      carried tree b (record b { dropped = d }) k span result new refl
      (ap (λ (st : State). step b.cursor.text st k span.start.rest span.end.rest) (ap (state_by tree b) i ∙ (begins b.phase l).0 ∙ ap (λ (z : Dropped). state_by tree b (reading_view z)) (sym f)))
      (same_count d b.phase _ _ (begins b.phase l).1 ∙ ap (λ (z : Dropped). unsliced_at z b.phase (bytes b.from.rest) (bytes b.parts.from.rest)) (sym f)) x
    where
      begins : (p : Phase) → is_live p ≡ false → (state_by tree b (after_slashdash p) ≡ in_phase tree b (phase_now tree b p)) × ((n m : ℕ) → n ≡ unsliced_in p n m)
      begins NodeSlashdash e = (refl, λ n m. refl)
      begins EntrySlashdash e = (refl, λ n m. refl)
      begins BlockSlashdash e = (refl, λ n m. refl)
      begins KeptSlashdash e = (refl, λ n m. refl)
      begins p e = absurd cc

      same_count : (z : Dropped) (p : Phase) (n m : ℕ) → ((n m : ℕ) → n ≡ unsliced_in p n m) → unsliced_at z p n m ≡ unsliced_in p n m
      same_count Nothing p n m e = refl
      same_count z p n m e = e n m

module _ {N : Type 0} (tree : N → Node) (b : Builder N) (d : Dropped) (j : Token) (span : TokenSpan) where
  -- a token of what is slashdashed, or one that may not be there, whatever text a string has
  pub drops_like : is_reading (reading_view b.dropped) ≡ true → is_over j (reading_view b.dropped) ≡ false → next j (reading_view b.dropped) ≡ Some (reading_view d) → TakesLike tree b j span (Ok tt) (record b { dropped = d })
  drops_like a e f k i = drops tree b d k span a (over_like j k (reading_view b.dropped) i ∙ e) (next_like j k (reading_view b.dropped) i ∙ f)

  pub refuses_like : is_reading (reading_view b.dropped) ≡ true → is_over j (reading_view b.dropped) ≡ false → next j (reading_view b.dropped) ≡ None → TakesLike tree b j span (Err Faulty) (record b { dropped = d })
  refuses_like a e f k i = drop_refused tree b d k span a (over_like j k (reading_view b.dropped) i ∙ e) (next_like j k (reading_view b.dropped) i ∙ f)

  -- the first token after a `/-`
  pub first_like : (result : Result (Unit {0}) LexFailure) (new : Builder N) → b.dropped ≡ Nothing → is_live b.phase ≡ false → reading_view d ≡ after_slashdash b.phase → TakesLike tree (record b { dropped = d }) j span result new → TakesLike tree b j span result new
  first_like result new f l i x k y = first_drops tree b d k span result new f l i (x k y)

over_reading : (k : Token) (d : Reading) → is_over k d ≡ true → is_reading d ≡ true
over_reading k nothing e = absurd cc
over_reading k d e = refl

-- after what is slashdashed the builder is in the state that it was in at its end, or in one in which the token does the same
module _ {N : Type 0} (tree : N → Node) (b : Builder N) (es : Growing KdlEntry) (f : under_view (record b.under { entries = es }) ≡ node_now b) where
  abbrev ended : Phase → Builder N
  ended p = record b { under = record b.under { entries = es }; waiting = None; dropped = Nothing; phase = p }

  node_over : (d : c.Control) (k : Token) → is_node_over k d ≡ true → let st = inside None None (nodes_now tree b) (frames_view tree b) b.from.rest d in
      ((s r : Text) → step b.cursor.text (in_phase tree b gap) k s r ≡ step b.cursor.text st k s r) × (finish b.cursor.text (in_phase tree b gap) ≡ finish b.cursor.text st)
  node_over (c.at Gap []) k e = (λ s r. refl, refl)
  node_over (c.at Kept []) closing e = (λ s r. refl, refl)
  node_over (c.at (InNode p) []) closing e = (λ s r. refl, refl)
  node_over (c.at p fs) closing e = absurd cc
  node_over (c.at p fs) k e = absurd cc

  part_ends : (p : Phase) (fs : List ControlFrame) → c.finish (c.at p fs) ≡ true → in_phase tree (ended p) (phase_now tree (ended p) p) ≡ inside (Some (node_now b)) (Some (kept_now tree b)) (nodes_now tree b) (frames_view tree b) b.from.rest (c.at p fs)
  part_ends Gap [] e = refl
  part_ends (InNode (Fresh MayBeKey)) [] e = rw f refl
  part_ends (InNode (Spaced MayBeKey)) [] e = rw f refl
  part_ends (InNode p) [] e = rw f refl
  part_ends Kept [] e = rw f refl
  part_ends p fs e = absurd cc

  same_over : (d : Dropped) (k : Token) → is_over k (reading_view d) ≡ true → let new = ended (phase_after d) in
      ((s r : Text) → step b.cursor.text (state_view tree new) k s r ≡ step b.cursor.text (state_by tree b (reading_view d)) k s r) × (document_now tree new ≡ finish b.cursor.text (state_by tree b (reading_view d)))
  same_over Nothing k e = absurd cc
  same_over (DroppedNode d) k e = node_over (control_view d) k e
  same_over (DroppedPart q) k e =
      let same = part_ends q.control.phase (reverse q.control.frames.items) e in
      (λ s r. ap (λ (st : State). step b.cursor.text st k s r) same, ap (finish b.cursor.text) same)

  -- its phase is none after a `/-`, and none inside a type or after a `=`
  live_end : (p : Phase) (fs : List ControlFrame) → c.finish (c.at p fs) ≡ true → (is_live p ≡ true) × ((t s : Text) → phase_placed t (phase_now tree (ended p) p) s) × ((n m : ℕ) → unsliced_in p n m ≡ n)
  live_end Gap fs e = (refl, (λ t s. tt), λ n m. refl)
  live_end Kept fs e = (refl, (λ t s. tt), λ n m. refl)
  live_end (InNode (Fresh w)) fs e = (refl, (λ t s. tt), λ n m. refl)
  live_end (InNode p) fs e = (refl, (λ t s. tt), λ n m. refl)
  live_end p fs e = absurd cc

  live_after : (d : Dropped) (k : Token) → is_over k (reading_view d) ≡ true → let p = phase_after d in (is_live p ≡ true) × ((t s : Text) → phase_placed t (phase_now tree (ended p) p) s) × ((n m : ℕ) → unsliced_in p n m ≡ n)
  live_after Nothing k e = absurd cc
  live_after (DroppedNode d) k e = live_end Gap [] refl
  live_after (DroppedPart q) k e = live_end q.control.phase (reverse q.control.frames.items) e

  pub leaves : (k : Token) (p : Phase) → is_over k (reading_view b.dropped) ≡ true → p ≡ phase_after b.dropped → Leaves tree b (ended p)
  leaves k p e g = subst (λ (q : Phase). Leaves tree b (ended q)) (sym g) (record {
    live = refl;
    building = live.0;
    cursor = refl;
    from = refl;
    unsliced = live.2 (bytes b.from.rest) (bytes b.parts.from.rest) ∙ sym (unsliced_read b.dropped b.phase _ _ (over_reading k (reading_view b.dropped) e));
    step = λ k span e. (same_over b.dropped k e).0 span.start.rest span.end.rest;
    placed = λ s x. (state_from tree b b.cursor.text s x, live.1 b.cursor.text s);
    document = (same_over b.dropped k e).1;
  })
    where
      live : (is_live (phase_after b.dropped) ≡ true) × ((t s : Text) → phase_placed t (phase_now tree (ended (phase_after b.dropped)) (phase_after b.dropped)) s) × ((n m : ℕ) → unsliced_in (phase_after b.dropped) n m ≡ n)
      live = live_after b.dropped k e
