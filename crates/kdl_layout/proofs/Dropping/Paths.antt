-- Where the grammar derives a piece, the control goes on over it.
-- `P c last s` says something of the control before the text s, where the last token that is no node-space ended before `last`.
use Rattle.kdl_layout.proofs.Common.{◌≡◌, Bool, true, false, ◌&&◌, not, List, [], ◌∷◌, Option, Some, refl, sym, ap, subst, ◌∙◌, and-false, Text, Star, plus, NodeSpace, Break, LineSpace, slashdash, Value, IsString, IsPlainValue, a_string, a_plain, parens, untyped, typed, IsValue, IsEntry, argument, Token, space, newline, string, t_space, t_newline, t_slashdash, t_string, t_value, t_left, t_opening, t_closing, t_semicolon, BeginsToken, token_det, no_token, Terminator, IsNode, named, AfterName, kept_entry, dropped_entry, Blocks, AfterBlock, dropped_later, no_more, Gap, no_gap, line_space, dropped_node, AreNodes, last_gap, node_then, IsBlock, braces, moved, follows_word, for_node, End, goes_on, goes, NodePasses, PartPasses, slashdash_phase, Control, at, event_of, spaced_of, step, is_gap, is_over, is_word, Phase, Spot, Frame, MayBeKey, NoKey, NodeSlashdash, TypeDone, InNode, EntrySlashdash, Fresh, Spaced, Later}
use Rattle.kdl_text.specs.Chars.Star.{none as no_star, more}
use Rattle.kdl_entry.specs.Data.{Entry}
use Rattle.kdl_entry.specs.Entries.{string as a_string', value as a_value', property as a_property}
use Rattle.kdl_syntax.specs.Tokens.{slashdash as dash, value, left, opening, closing, t_right, t_equals}
use Rattle.kdl_grammar.specs.Data.{Node, Children, Nodes}
use Rattle.kdl_syntax.specs.Control.{after, popped}
use Rattle.kdl_syntax.specs.declared.control.{Word.Word as ControlWord, Owner.Owner, Owner.TheVariants.Name as OfName, Owner.TheVariants.Value as OfValue}
use Rattle.kdl_syntax.specs.declared.control.Phase.TheVariants.{Gap as InGap, TypeOpen, TypeName, Property, BlockSlashdash, Kept, KeptSlashdash}
use Rattle.kdl_syntax.specs.declared.control.Frame.TheVariants.{Node as NodeBlock, Dropped as DroppedBlock, Later as LaterBlock}

-- after the name of a node
pub data Tail (fs : List Frame) : Control → Type 0 where
  before_block : {q : Spot} → Tail fs (at (InNode q) fs)
  after_block : Tail fs (at Kept fs)

-- where the nodes of a place may end
pub data Shuts (fs : List Frame) : Control → Type 0 where
  between_nodes : Shuts fs (at InGap fs)
  in_tail : {c : Control} → Tail fs c → Shuts fs c

-- neither a gap nor a node goes on here
pub data Halt : Text → Type 0 where
  at_end : Halt []
  at_brace : {r : Text} → Halt (125 ∷ r)

halt_token : {s r : Text} {k : Token} → Halt s → BeginsToken s k r → k ≡ closing
halt_token at_end t = absurd (no_token t)
halt_token at_brace t = (token_det t t_closing).1

pub halts : {s r : Text} → Halt s → Gap true s r → s ≡ r
halts h no_gap = refl
halts h (line_space (LineSpace.space n) g) = let e = halt_token h (t_space n) in cc
halts h (line_space (LineSpace.«break» n) g) = let e = halt_token h (t_newline n) in cc
halts h (dropped_node (slashdash ls) x e g) = let e = halt_token h t_slashdash in cc

pub no_node : {s r : Text} {x : Node} → Halt s → IsNode true s r x → ⊥
no_node h (named untyped (a_string' p e) d) = let e = halt_token h (t_string p) in cc
no_node h (named (typed (parens ss w us) vs) z d) = let e = halt_token h t_left in cc

pub halts_nodes : {s r : Text} {xs : Nodes} → Halt s → AreNodes true s r xs → s ≡ r
halts_nodes h (last_gap g) = halts h g
halts_nodes h (node_then g x e ds) = absurd (no_node (subst Halt (halts h g) h) x)

-- in a block nothing is over
pub in_block_on : (p : Phase) (f : Frame) (fs : List Frame) → (is_over (at p (f ∷ fs)) ≡ false) × (is_word (at p (f ∷ fs)) ≡ false)
in_block_on (InNode (Fresh NoKey)) f fs = (refl, refl)
in_block_on (InNode (Fresh MayBeKey)) f fs = (refl, refl)
in_block_on (InNode (Spaced NoKey)) f fs = (refl, refl)
in_block_on (InNode (Spaced MayBeKey)) f fs = (refl, refl)
in_block_on _ f fs = (refl, refl)

-- a slashdash after spaces is what it is before them
pub slashdash_spaced : (q : Spot) → event_of (InNode (spaced_of q)) dash ≡ event_of (InNode q) dash
slashdash_spaced (Fresh w) = refl
slashdash_spaced (Spaced w) = refl
slashdash_spaced Later = refl

-- from a phase under the frames, P goes back over each token that does not lead between the nodes of the place
abbrev pub HereAt : (Control → Text → Text → Type 0) → List Frame → Phase → Type 0
HereAt P fs p = (d : Control) (last s r : Text) (k : Token) → BeginsToken s k r → step (at p fs) k ≡ Some d → is_gap d ≡ false → P d (moved k last r) r → P (at p fs) last s

abbrev pub Here : (Control → Text → Text → Type 0) → List Frame → Type 0
Here P fs = (p : Phase) → HereAt P fs p

-- and over each one that leads between the nodes under the frames
abbrev pub ToGap : (Control → Text → Text → Type 0) → List Frame → Type 0
ToGap P fs = (p : Phase) (last s r : Text) (k : Token) → BeginsToken s k r → step (at p fs) k ≡ Some (at InGap fs) → P (at InGap fs) (moved k last r) r → P (at p fs) last s

-- over each token of an entry, of a block, or of a node before its end
abbrev pub Back : (Control → Text → Text → Type 0) → Type 0
Back P = (c d : Control) (last s r : Text) (k : Token) → BeginsToken s k r → step c k ≡ Some d → is_gap d ≡ false → is_over c ≡ false → (is_word c && not (follows_word k)) ≡ false → P d (moved k last r) r → P c last s

module _ (P : Control → Text → Text → Type 0) (over : Back P) where
  back : {c d : Control} {last s r : Text} {k : Token} → BeginsToken s k r → step c k ≡ Some d → is_gap d ≡ false → is_over c ≡ false → (is_word c && not (follows_word k)) ≡ false → P d (moved k last r) r → P c last s
  back t e g o w x = over _ _ _ _ _ _ t e g o w x

  inside : (f : Frame) (fs : List Frame) → Here P (f ∷ fs)
  inside f fs p d last s r k t e g x = back t e g (in_block_on p f fs).0 (rw (in_block_on p f fs).1 refl) x

  inside_gap : (f : Frame) (fs : List Frame) → ToGap P (f ∷ fs)
  inside_gap f fs p last s r k t e x = back t e refl (in_block_on p f fs).0 (rw (in_block_on p f fs).1 refl) x

  stay : (c : Control) → ((last s r : Text) → NodeSpace s r → P c last r → P c last s) → {last s r : Text} → Star NodeSpace s r → P c last r → P c last s
  stay c f no_star x = x
  stay c f (more n m) x = f _ _ _ n (stay c f m x)

  lines : {fs : List Frame} (p : Phase) → HereAt P fs p → is_gap (at p fs) ≡ false → step (at p fs) space ≡ Some (at p fs) → step (at p fs) newline ≡ Some (at p fs) → {s r : Text} → Star LineSpace s r → ((last : Text) → P (at p fs) last r) → (last : Text) → P (at p fs) last s
  lines p h g e f no_star x last = x last
  lines p h g e f (more (LineSpace.space n) m) x last = h _ _ _ _ _ (t_space n) e g (lines p h g e f m x last)
  lines p h g e f (more (LineSpace.«break» n) m) x last = h _ _ _ _ _ (t_newline n) f g (lines p h g e f m x _)

  -- after the `(`
  type_in : {fs : List Frame} (b : Owner) {s t u r v : Text} → Star NodeSpace s t → IsString true t u v → Star NodeSpace u (41 ∷ r) → P (at (TypeDone b) fs) r r → (last : Text) → P (at (TypeOpen b) fs) last s
  type_in {fs = fs} b ss (a_string' p e) us x last =
      stay (at (TypeOpen b) fs) (λ last s r n x. back (t_space n) refl refl refl refl x) ss (back (t_string p) refl refl refl refl
      (stay (at (TypeName b) fs) (λ last s r n x. back (t_space n) refl refl refl refl x) us (back t_right refl refl refl refl x)))

  plain_value : {fs : List Frame} {s r : Text} {v : Value} → IsPlainValue true s r v → (p : Phase) → HereAt P fs p → (b : ControlWord) → ((v : Text) → step (at p fs) (string v) ≡ Some (at (InNode (Fresh b)) fs))
      → ((v : Value) → step (at p fs) (value v) ≡ Some (at (InNode (Fresh NoKey)) fs)) → ((b : ControlWord) → P (at (InNode (Fresh b)) fs) r r) → (last : Text) → P (at p fs) last s
  plain_value (a_string (a_string' q e)) p h b to_string to_value x last = h _ _ _ _ _ (t_string q) (to_string _) refl (x b)
  plain_value (a_plain q e) p h b to_string to_value x last = h _ _ _ _ _ (t_value q) (to_value _) refl (x NoKey)

  a_value : {fs : List Frame} {s r : Text} {y : Option Text} {v : Value} → IsValue true s r y v → (p : Phase) → HereAt P fs p → (b : ControlWord) → ((v : Text) → step (at p fs) (string v) ≡ Some (at (InNode (Fresh b)) fs))
      → ((v : Value) → step (at p fs) (value v) ≡ Some (at (InNode (Fresh NoKey)) fs)) → step (at p fs) left ≡ Some (at (TypeOpen OfValue) fs) → ((b : ControlWord) → P (at (InNode (Fresh b)) fs) r r) → (last : Text) → P (at p fs) last s
  a_value (a_value' untyped d) p h b to_string to_value to_left x last = plain_value d p h b to_string to_value x last
  a_value {fs = fs} (a_value' (typed (parens ss w us) vs) d) p h b to_string to_value to_left x last =
      h _ _ _ _ _ t_left to_left refl (type_in OfValue ss w us (stay (at (TypeDone OfValue) fs) (λ last s r n x. back (t_space n) refl refl refl refl x) vs
      (plain_value d (TypeDone OfValue) (λ d last s r k t e g x. back t e g refl refl x) NoKey (λ v. refl) (λ v. refl) x _)) _)

  -- after the key
  equals_in : {fs : List Frame} {s u : Text} → Star NodeSpace s (61 ∷ u) → P (at Property fs) u u → (last : Text) → P (at (InNode (Fresh MayBeKey)) fs) last s
  equals_in {fs = fs} no_star x last = back t_equals refl refl refl (and-false (is_word (at (InNode (Fresh MayBeKey)) fs))) x
  equals_in {fs = fs} (more n m) x last =
      let w = and-false (is_word (at (InNode (Spaced MayBeKey)) fs)) in
      back (t_space n) refl refl refl (and-false (is_word (at (InNode (Fresh MayBeKey)) fs))) (stay (at (InNode (Spaced MayBeKey)) fs) (λ last s r n x. back (t_space n) refl refl refl w x) m (back t_equals refl refl refl w x))

  -- an entry, from where one may begin
  pub entry : {fs : List Frame} {s r : Text} {e : Entry} → IsEntry true s r e → (p : Phase) → HereAt P fs p → ((v : Text) → step (at p fs) (string v) ≡ Some (at (InNode (Fresh MayBeKey)) fs))
      → ((v : Value) → step (at p fs) (value v) ≡ Some (at (InNode (Fresh NoKey)) fs)) → step (at p fs) left ≡ Some (at (TypeOpen OfValue) fs) → ((b : ControlWord) → P (at (InNode (Fresh b)) fs) r r) → (last : Text) → P (at p fs) last s
  entry (argument v) p h to_string to_value to_left x last = a_value v p h MayBeKey to_string to_value to_left x last
  entry {fs = fs} (a_property (a_string' q e) ss us v) p h to_string to_value to_left x last =
      h _ _ _ _ _ (t_string q) (to_string _) refl (equals_in ss (stay (at Property fs) (λ last s r n x. back (t_space n) refl refl refl refl x) us
      (a_value v Property (λ d last s r k t e g x. back t e g refl refl x) NoKey (λ v. refl) (λ v. refl) refl x _)) _)

  -- node-spaces after a name, an entry or a dropped block
  spaces : {fs : List Frame} {last s r : Text} → Star NodeSpace s r → (q : Spot) → Here P fs → ((q' : Spot) → event_of (InNode q') dash ≡ event_of (InNode q) dash → P (at (InNode q') fs) last r) → P (at (InNode q) fs) last s
  spaces no_star q h x = x q refl
  spaces (more n m) q h x = h (InNode q) _ _ _ _ _ (t_space n) refl refl (spaces m (spaced_of q) h (λ q' e. x q' (e ∙ slashdash_spaced q)))

  -- a slashdashed block
  dashed : {fs : List Frame} {s r : Text} → Star LineSpace s r → Here P fs → (q : Spot) → ((p : Phase) → HereAt P fs p → step (at p fs) opening ≡ Some (at InGap (DroppedBlock ∷ fs)) → (last : Text) → P (at p fs) last r) → (last : Text) → P (at (InNode q) fs) last (47 ∷ 45 ∷ s)
  dashed ls h (Fresh w) f last = h (InNode (Fresh w)) _ _ _ _ _ t_slashdash refl refl (lines EntrySlashdash (h EntrySlashdash) refl refl refl ls (f EntrySlashdash (h EntrySlashdash) refl) _)
  dashed ls h (Spaced w) f last = h (InNode (Spaced w)) _ _ _ _ _ t_slashdash refl refl (lines EntrySlashdash (h EntrySlashdash) refl refl refl ls (f EntrySlashdash (h EntrySlashdash) refl) _)
  dashed ls h Later f last = h (InNode Later) _ _ _ _ _ t_slashdash refl refl (lines BlockSlashdash (h BlockSlashdash) refl refl refl ls (f BlockSlashdash (h BlockSlashdash) refl) _)

  kept_spaces : {fs : List Frame} {last s r : Text} → Star NodeSpace s r → Here P fs → P (at Kept fs) last r → P (at Kept fs) last s
  kept_spaces {fs = fs} ss h x = stay (at Kept fs) (λ last s r n x. h Kept _ _ _ _ _ (t_space n) refl refl x) ss x

  pub tail_spaces : {fs : List Frame} {c : Control} {last s r : Text} → Tail fs c → Star NodeSpace s r → Here P fs → ((c' : Control) → Tail fs c' → P c' last r) → P c last s
  tail_spaces (before_block {q = q}) ss h x = spaces ss q h (λ q' e. x _ before_block)
  tail_spaces after_block ss h x = kept_spaces ss h (x _ after_block)

  -- the terminator, where the nodes go on after it or end
  pub terminator : {fs : List Frame} {c : Control} {u v : Text} → Terminator u v → Tail fs c → ToGap P fs → ((last : Text) → P (at InGap fs) last v) → (Halt v → (last : Text) → P c last v) → (last : Text) → P c last u
  terminator Terminator.semicolon (before_block {q = q}) t x z last = t (InNode q) _ _ _ _ t_semicolon refl (x _)
  terminator Terminator.semicolon after_block t x z last = t Kept _ _ _ _ t_semicolon refl (x _)
  terminator (Terminator.newline n) (before_block {q = q}) t x z last = t (InNode q) _ _ _ _ (t_newline (Break.newline n)) refl (x _)
  terminator (Terminator.newline n) after_block t x z last = t Kept _ _ _ _ (t_newline (Break.newline n)) refl (x _)
  terminator (Terminator.comment n) (before_block {q = q}) t x z last = t (InNode q) _ _ _ _ (t_newline (Break.comment n)) refl (x _)
  terminator (Terminator.comment n) after_block t x z last = t Kept _ _ _ _ (t_newline (Break.comment n)) refl (x _)
  terminator Terminator.at_end q t x z last = z at_end last
  terminator Terminator.at_close q t x z last = z at_brace last

  -- the `}`
  close : {c d : Control} {r : Text} (f : Frame) (fs : List Frame) → Shuts (f ∷ fs) c → popped (f ∷ fs) ≡ Some d → is_gap d ≡ false → P d r r → (last : Text) → P c last (125 ∷ r)
  close f fs between_nodes e g x last = inside f fs InGap _ _ _ _ _ t_closing e g x
  close f fs (in_tail (before_block {q = q})) e g x last = inside f fs (InNode q) _ _ _ _ _ t_closing e g x
  close f fs (in_tail after_block) e g x last = inside f fs Kept _ _ _ _ _ t_closing e g x

  mutual
    -- a block, from where one may begin
    pub block : {fs : List Frame} {s r : Text} {xs : Nodes} → IsBlock true s r xs → (p : Phase) → HereAt P fs p → (f : Frame) (d : Control) → step (at p fs) opening ≡ Some (at InGap (f ∷ fs)) → popped (f ∷ fs) ≡ Some d → is_gap d ≡ false
        → P d r r → (last : Text) → P (at p fs) last s
    block {fs = fs} (braces ns) p h f d e pop g x last = h _ _ _ _ _ t_opening e refl (nodes ns (f ∷ fs) (inside f fs) (inside_gap f fs) (λ c z last. close f fs z pop g x last) _)

    -- nodes
    pub nodes : {s r : Text} {xs : Nodes} → AreNodes true s r xs → (fs : List Frame) → Here P fs → ToGap P fs → ((c : Control) → Shuts fs c → (last : Text) → P c last r) → (last : Text) → P (at InGap fs) last s
    nodes (last_gap g) fs h t x last = gaps g fs h t (λ last. x _ between_nodes last) (λ z c q last. x c q last) last
    nodes (node_then g y e ds) fs h t x last =
        gaps g fs h t (λ last. node y InGap h (λ v. refl) refl (λ c w q y' ws. terminator e q t (λ last. nodes ds fs h t x last) (λ z last. subst (λ (u : Text). P c last u) (sym (halts_nodes z ds)) (x c (in_tail q) last)) w) last)
        (λ z c q last. absurd (no_node z y)) last

    -- a gap
    pub gaps : {s r : Text} → Gap true s r → (fs : List Frame) → Here P fs → ToGap P fs → ((last : Text) → P (at InGap fs) last r) → (Halt r → (c : Control) → Shuts fs c → (last : Text) → P c last r) → (last : Text) → P (at InGap fs) last s
    gaps no_gap fs h t x z last = x last
    gaps (line_space (LineSpace.space n) g) fs h t x z last = t InGap _ _ _ _ (t_space n) refl (gaps g fs h t x z last)
    gaps (line_space (LineSpace.«break» n) g) fs h t x z last = t InGap _ _ _ _ (t_newline n) refl (gaps g fs h t x z _)
    gaps (dropped_node (slashdash ls) y e g) fs h t x z last =
        h InGap _ _ _ _ _ t_slashdash refl refl (lines NodeSlashdash (h NodeSlashdash) refl refl refl ls (node y NodeSlashdash h (λ v. refl) refl
        (λ c w q y' ws. terminator e q t (λ last. gaps g fs h t x z last) (λ i last. subst (λ (u : Text). P c last u) (sym (halts i g)) (z (subst Halt (halts i g) i) c (in_tail q) last)) w)) _)

    -- a node, from where one may begin; its last node-spaces begin at w
    pub node : {fs : List Frame} {s r : Text} {y : Node} → IsNode true s r y → (p : Phase) → Here P fs → ((v : Text) → step (at p fs) (string v) ≡ Some (at (InNode (Fresh NoKey)) fs)) → step (at p fs) left ≡ Some (at (TypeOpen OfName) fs)
        → ((c : Control) (w : Text) → Tail fs c → IsNode true s w y → Star NodeSpace w r → P c w r) → (last : Text) → P (at p fs) last s
    node (named untyped (a_string' i e) d) p h to_string to_left x last = h p _ _ _ _ _ (t_string i) (to_string _) refl (name d h NoKey (λ c w q d' ws. x c w q (named untyped (a_string' i e) d') ws))
    node {fs = fs} (named (typed (parens ss u us) vs) (a_string' i e) d) p h to_string to_left x last =
        h p _ _ _ _ _ t_left to_left refl (type_in OfName ss u us (stay (at (TypeDone OfName) fs) (λ last s r n x. back (t_space n) refl refl refl refl x) vs
        (back (t_string i) refl refl refl refl (name d h NoKey (λ c w q d' ws. x c w q (named (typed (parens ss u us) vs) (a_string' i e) d') ws)))) _)

    name : {fs : List Frame} {s r : Text} {es : List Entry} {k : Children} → AfterName true s r es k → Here P fs → (b : ControlWord) → ((c : Control) (w : Text) → Tail fs c → AfterName true s w es k → Star NodeSpace w r → P c w r)
        → P (at (InNode (Fresh b)) fs) s s
    name {fs = fs} (kept_entry (plus n ss) i d) h b x =
        h (InNode (Fresh b)) _ _ _ _ _ (t_space n) refl refl (stay (at (InNode (Spaced b)) fs) (λ last s r n x. h (InNode (Spaced b)) _ _ _ _ _ (t_space n) refl refl x) ss
        (entry i (InNode (Spaced b)) (h (InNode (Spaced b))) (λ v. refl) (λ v. refl) refl (λ b'. name d h b' (λ c w q d' ws. x c w q (kept_entry (plus n ss) i d') ws)) _))
    name {fs = fs} (dropped_entry ss (slashdash ls) i d) h b x =
        spaces ss (Fresh b) h (λ q e. h (InNode q) _ _ _ _ _ t_slashdash (ap (λ o. after o fs) e) refl (lines EntrySlashdash (h EntrySlashdash) refl refl refl ls
        (entry i EntrySlashdash (h EntrySlashdash) (λ v. refl) (λ v. refl) refl (λ b'. name d h b' (λ c w q d' ws. x c w q (dropped_entry ss (slashdash ls) i d') ws))) _))
    name (AfterName.blocks d) h b x = blocks d h (Fresh b) (λ c w q d' ws. x c w q (AfterName.blocks d') ws)

    blocks : {fs : List Frame} {b : Bool} {s r : Text} {k : Children} → Blocks true b s r k → Here P fs → (q : Spot) → ((c : Control) (w : Text) → Tail fs c → Blocks true b s w k → Star NodeSpace w r → P c w r)
        → P (at (InNode q) fs) s s
    blocks {fs = fs} (Blocks.dropped_block ss (slashdash ls) b d) h q x =
        spaces ss q h (λ q' e. dashed ls h q' (λ p h' o. block b p h' DroppedBlock (at (InNode Later) fs) o refl refl (blocks d h Later (λ c w z d' ws. x c w z (Blocks.dropped_block ss (slashdash ls) b d') ws))) _)
    blocks {fs = fs} (Blocks.block ss b d) h q x =
        spaces ss q h (λ q' e. block b (InNode q') (h (InNode q')) NodeBlock (at Kept fs) refl refl refl (following d h (λ c w z d' ws. x c w z (Blocks.block ss b d') ws)) _)
    blocks (Blocks.no_block ss) h q x = spaces ss q h (λ q' e. x _ _ before_block (Blocks.no_block no_star) ss)

    following : {fs : List Frame} {s r : Text} → AfterBlock true s r → Here P fs → ((c : Control) (w : Text) → Tail fs c → AfterBlock true s w → Star NodeSpace w r → P c w r) → P (at Kept fs) s s
    following {fs = fs} (dropped_later ss (slashdash ls) b d) h x =
        kept_spaces ss h (h Kept _ _ _ _ _ t_slashdash refl refl (lines KeptSlashdash (h KeptSlashdash) refl refl refl ls
        (block b KeptSlashdash (h KeptSlashdash) LaterBlock (at Kept fs) refl refl refl (following d h (λ c w z d' ws. x c w z (dropped_later ss (slashdash ls) b d') ws))) _))
    following (no_more ss) h x = kept_spaces ss h (x _ _ after_block (no_more no_star) ss)

  -- what a slashdash drops: a node; its last node-spaces begin at w
  pub drop_node : {fs : List Frame} {s t r : Text} {y : Node} → Star LineSpace s t → IsNode true t r y → Here P fs → ((c : Control) (w : Text) → Tail fs c → IsNode true t w y → Star NodeSpace w r → P c w r) → (last : Text) → P (at NodeSlashdash fs) last s
  drop_node ls y h x last = lines NodeSlashdash (h NodeSlashdash) refl refl refl ls (node y NodeSlashdash h (λ v. refl) refl x) last

  -- or an entry
  pub drop_entry : {fs : List Frame} {s t r : Text} {e : Entry} → Star LineSpace s t → IsEntry true t r e → ((b : ControlWord) → P (at (InNode (Fresh b)) fs) r r) → (last : Text) → P (at EntrySlashdash fs) last s
  drop_entry {fs = fs} ls i x last =
      let h : HereAt P fs EntrySlashdash = λ d last s r k t e g x. back t e g refl refl x in
      lines EntrySlashdash h refl refl refl ls (entry i EntrySlashdash h (λ v. refl) (λ v. refl) refl x) last

  -- or a block
  pub drop_block : {fs : List Frame} {s t r : Text} {xs : Nodes} → Star LineSpace s t → IsBlock true t r xs → P (at (InNode Later) fs) r r → (b : Bool) (last : Text) → P (at (slashdash_phase b) fs) last s
  drop_block {fs = fs} ls i x true last =
      let h : HereAt P fs EntrySlashdash = λ d last s r k t e g x. back t e g refl refl x in
      lines EntrySlashdash h refl refl refl ls (block i EntrySlashdash h DroppedBlock (at (InNode Later) fs) refl refl refl x) last
  drop_block {fs = fs} ls i x false last =
      let h : HereAt P fs BlockSlashdash = λ d last s r k t e g x. back t e g refl refl x in
      lines BlockSlashdash h refl refl refl ls (block i BlockSlashdash h DroppedBlock (at (InNode Later) fs) refl refl refl x) last

-- the control's passing over what a slashdash drops is such a P: in a node
pub over_part : (b : Bool) (e : Text) → Back (λ c last s. PartPasses c last s b e)
over_part b e c d last s r k t f g o w x = goes t f (rw (o, w) refl) x

-- and between nodes, where all tokens of the node may come
pub node_on : (c : Control) (k : Token) {d : Control} → step c k ≡ Some d → is_gap d ≡ false → goes_on for_node c k ≡ true
node_on c k f g = rw (f, g) refl

pub over_node : (e : End) → Here (λ c last s. NodePasses c last s e) []
over_node e p d last s r k t f g x = goes t f (node_on (at p []) k f g) x
