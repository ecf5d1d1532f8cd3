-- What the grammar derives of a node, the control goes over.
use Rattle.std.proofs.Common.{◌≡◌, Bool, true, false, List, [], ◌∷◌, Option, Some, refl, ap, ◌∙◌}
use Rattle.kdl_text.specs.Chars.{Text, Star, plus}
use Rattle.kdl_text.specs.Chars.Star.{none as no_star, more}
use Rattle.kdl_text.specs.Trivia.{NodeSpace, Break, LineSpace, slashdash}
use Rattle.kdl_value.specs.Data.{Value}
use Rattle.kdl_entry.specs.Data.{Entry}
use Rattle.kdl_entry.specs.Entries.{IsString, string as a_string', IsPlainValue, a_string, a_plain, parens, MaybeType, untyped, typed, IsValue, value as a_value, IsEntry, property as a_property, argument}
use Rattle.kdl_syntax.specs.Tokens.{Token, space, newline, slashdash as a_slashdash, string, value, left, closing, BeginsToken, t_space, t_newline, t_slashdash, t_string, t_value, t_left, t_right, t_opening, t_closing, t_equals, t_semicolon}
use Rattle.kdl_syntax.proofs.Lexing.TokenUnique.{token_det, no_token}
use Rattle.kdl_grammar.specs.Data.{Node, Children, Nodes}
use Rattle.kdl_grammar.specs.Grammar.{Terminator, IsNode, named, AfterName, kept_entry, dropped_entry, Blocks, dropped_block, block, no_block, AfterBlock, dropped_later, no_more, Gap, no_gap, line_space, dropped_node, AreNodes, last_gap, node_then, braces}
use Rattle.kdl_syntax.specs.Control.{at, spaced_of, popped}
use Rattle.kdl_syntax.specs.declared.control.{Phase.Phase, Spot.Spot, Frame.Frame, Word.Word as ControlWord, Owner.Owner, Word.TheVariants.MayBeKey, Word.TheVariants.NoKey, Owner.TheVariants.Name as OfName, Owner.TheVariants.Value as OfValue}
use Rattle.kdl_syntax.specs.declared.control.Phase.TheVariants.{Gap as InGap, NodeSlashdash, TypeOpen, TypeDone, InNode, Property, EntrySlashdash, BlockSlashdash, Kept, KeptSlashdash}
use Rattle.kdl_syntax.specs.declared.control.Spot.TheVariants.{Fresh, Spaced, Later}
use Rattle.kdl_syntax.specs.declared.control.Frame.TheVariants.{Node as NodeBlock, Dropped as DroppedBlock, Later as LaterBlock}
use Rattle.kdl_grammar.specs.Going.{GoesBy, here, goes}
use Rattle.kdl_grammar.specs.NodeControl.{NodeControl, in_text, with_begun, node_step, node_finish, node_start}

abbrev pub NodeGoes : NodeControl → Text → NodeControl → Text → Type 0
NodeGoes = GoesBy node_step

-- one part after another
pub and_then : {c d e : NodeControl} {s t r : Text} → NodeGoes c s d t → NodeGoes d t e r → NodeGoes c s e r
and_then here h = h
and_then (goes b e g) h = goes b e (and_then g h)

spaces_stay : {n : NodeControl} {s r : Text} → node_step n space ≡ Some n → Star NodeSpace s r → NodeGoes n s n r
spaces_stay e no_star = here
spaces_stay e (more n m) = goes (t_space n) e (spaces_stay e m)

pub lines_stay : {n : NodeControl} {s r : Text} → node_step n space ≡ Some n → node_step n newline ≡ Some n → Star LineSpace s r → NodeGoes n s n r
lines_stay e f no_star = here
lines_stay e f (more (LineSpace.space n) m) = goes (t_space n) e (lines_stay e f m)
lines_stay e f (more (LineSpace.«break» n) m) = goes (t_newline n) f (lines_stay e f m)

-- the text ends, or a `}` comes
pub data Closed : Text → Type 0 where
  at_end : Closed []
  at_close : {r : Text} → Closed (125 ∷ r)

only_close : {s r : Text} {k : Token} → Closed s → BeginsToken s k r → k ≡ closing
only_close at_end b = absurd (no_token b)
only_close at_close b = (token_det b t_closing).1

-- where nodes may end, or go on after a terminator
pub data Stands : Phase → Text → Type 0 where
  between : {v : Text} → Stands InGap v
  in_open : {p : Spot} {v : Text} → Closed v → Stands (InNode p) v
  kept_open : {v : Text} → Closed v → Stands Kept v

-- slashdashed nodes may come: the node has not begun, or a block is open
data Free : Bool → List Frame → Type 0 where
  before : Free false []
  inside : {b : Bool} {f : Frame} {fs : List Frame} → Free b (f ∷ fs)

free_space : {b : Bool} {fs : List Frame} → Free b fs → node_step (in_text b (at InGap fs)) space ≡ Some (in_text b (at InGap fs))
free_space before = refl
free_space inside = refl

free_newline : {b : Bool} {fs : List Frame} → Free b fs → node_step (in_text b (at InGap fs)) newline ≡ Some (in_text b (at InGap fs))
free_newline before = refl
free_newline inside = refl

free_slashdash : {b : Bool} {fs : List Frame} → Free b fs → node_step (in_text b (at InGap fs)) a_slashdash ≡ Some (in_text b (at NodeSlashdash fs))
free_slashdash before = refl
free_slashdash inside = refl

-- the `}` of an open block
closes : {p : Phase} {r : Text} (b : Bool) (f : Frame) (fs : List Frame) → Stands p (125 ∷ r) → node_step (in_text b (at p (f ∷ fs))) closing ≡ with_begun b (popped (f ∷ fs))
closes b f fs between = refl
closes b f fs (in_open x) = refl
closes b f fs (kept_open x) = refl

-- to a place where nodes may end
record Ended (b : Bool) (fs : List Frame) (c : NodeControl) (s r : Text) : Type 0 where
  phase : Phase
  stands : Stands phase r
  there : NodeGoes c s (in_text b (at phase fs)) r

after : {b : Bool} {fs : List Frame} {c d : NodeControl} {s t r : Text} → NodeGoes c s d t → Ended b fs d t r → Ended b fs c s r
after g x = record { phase = x.phase; stands = x.stands; there = and_then g x.there }

-- a string here is a name or a value, and a type may come
record Takes (n : NodeControl) (owner : Owner) (b : Bool) (fs : List Frame) : Type 0 where
  word : ControlWord
  to_string : (v : Text) → node_step n (string v) ≡ Some (in_text b (at (InNode (Fresh word)) fs))
  to_value : owner ≡ OfValue → (v : Value) → node_step n (value v) ≡ Some (in_text b (at (InNode (Fresh NoKey)) fs))
  to_left : node_step n left ≡ Some (in_text b (at (TypeOpen owner) fs))

-- after a name or a value
record Given (b : Bool) (fs : List Frame) (c : NodeControl) (s r : Text) : Type 0 where
  word : ControlWord
  there : NodeGoes c s (in_text b (at (InNode (Fresh word)) fs)) r

module _ (b : Bool) (fs : List Frame) where
  a_name : {s t r v : Text} {y : Option Text} {n : NodeControl} → Takes n OfName b fs → MaybeType true s t y → IsString true t r v → Given b fs n s r
  a_name k untyped (a_string' w x) = record { word = k.word; there = goes (t_string w) (k.to_string _) here }
  a_name k (typed (parens ss (a_string' u x') us) vs) (a_string' w x) =
      record { word = NoKey; there = goes t_left k.to_left (and_then (spaces_stay refl ss) (goes (t_string u) refl (and_then (spaces_stay refl us) (goes t_right refl (and_then (spaces_stay refl vs) (goes (t_string w) refl here)))))) }

  a_plain_value : {s r : Text} {v : Value} {n : NodeControl} → Takes n OfValue b fs → IsPlainValue true s r v → Given b fs n s r
  a_plain_value k (a_string (a_string' w x)) = record { word = k.word; there = goes (t_string w) (k.to_string _) here }
  a_plain_value k (a_plain w x) = record { word = NoKey; there = goes (t_value w) (k.to_value refl _) here }

  done_value : {s r : Text} {v : Value} → IsPlainValue true s r v → NodeGoes (in_text b (at (TypeDone OfValue) fs)) s (in_text b (at (InNode (Fresh NoKey)) fs)) r
  done_value (a_string (a_string' w x)) = goes (t_string w) refl here
  done_value (a_plain w x) = goes (t_value w) refl here

  a_full_value : {s r : Text} {y : Option Text} {v : Value} {n : NodeControl} → Takes n OfValue b fs → IsValue true s r y v → Given b fs n s r
  a_full_value k (a_value untyped d) = a_plain_value k d
  a_full_value k (a_value (typed (parens ss (a_string' u x) us) vs) d) =
      record { word = NoKey; there = goes t_left k.to_left (and_then (spaces_stay refl ss) (goes (t_string u) refl (and_then (spaces_stay refl us) (goes t_right refl (and_then (spaces_stay refl vs) (done_value d)))))) }

  property_takes : Takes (in_text b (at Property fs)) OfValue b fs
  property_takes = record { word = NoKey; to_string = λ v. refl; to_value = λ e v. refl; to_left = refl }

  an_equals : {s u : Text} → Star NodeSpace s (61 ∷ u) → NodeGoes (in_text b (at (InNode (Fresh MayBeKey)) fs)) s (in_text b (at Property fs)) u
  an_equals no_star = goes t_equals refl here
  an_equals (more n m) = goes (t_space n) refl (and_then (spaces_stay {n = in_text b (at (InNode (Spaced MayBeKey)) fs)} refl m) (goes t_equals refl here))

  an_entry : {s r : Text} {e : Entry} {n : NodeControl} → (k : Takes n OfValue b fs) → k.word ≡ MayBeKey → IsEntry true s r e → Given b fs n s r
  an_entry k w (argument d) = a_full_value k d
  an_entry k w (a_property (a_string' u x) ss us d) =
      let g = a_full_value property_takes d in
      record { word = g.word; there = goes (t_string u) (k.to_string _ ∙ ap (λ (z : ControlWord). Some (in_text b (at (InNode (Fresh z)) fs))) w) (and_then (an_equals ss) (and_then (spaces_stay refl us) g.there)) }

  abbrev spaced_takes : (w : ControlWord) → Takes (in_text b (at (InNode (Spaced w)) fs)) OfValue b fs
  spaced_takes w = record { word = MayBeKey; to_string = λ v. refl; to_value = λ e v. refl; to_left = refl }

  abbrev dropped_takes : Takes (in_text b (at EntrySlashdash fs)) OfValue b fs
  dropped_takes = record { word = MayBeKey; to_string = λ v. refl; to_value = λ e v. refl; to_left = refl }

  -- spaces in a node, and then a slashdash
  record Spotted (s r : Text) (p : Spot) : Type 0 where
    spot : Spot
    there : NodeGoes (in_text b (at (InNode p) fs)) s (in_text b (at (InNode spot) fs)) r

  a_space : {s r : Text} (p : Spot) → Star NodeSpace s r → Spotted s r p
  a_space p no_star = record { spot = p; there = here }
  a_space p (more n m) = let x = a_space (spaced_of p) m in record { spot = x.spot; there = goes (t_space n) refl x.there }

  to_entry : {s t r : Text} (w : ControlWord) → Star NodeSpace s (47 ∷ 45 ∷ t) → Star LineSpace t r → NodeGoes (in_text b (at (InNode (Fresh w)) fs)) s (in_text b (at EntrySlashdash fs)) r
  to_entry w no_star ls = goes t_slashdash refl (lines_stay refl refl ls)
  to_entry w (more n m) ls = goes (t_space n) refl (and_then (spaces_stay {n = in_text b (at (InNode (Spaced w)) fs)} refl m) (goes t_slashdash refl (lines_stay refl refl ls)))

  to_block : {s t : Text} (p : Spot) → Star LineSpace s (123 ∷ t) → NodeGoes (in_text b (at (InNode p) fs)) (47 ∷ 45 ∷ s) (in_text b (at InGap (DroppedBlock ∷ fs))) t
  to_block (Fresh w) ls = goes t_slashdash refl (and_then (lines_stay {n = in_text b (at EntrySlashdash fs)} refl refl ls) (goes t_opening refl here))
  to_block (Spaced w) ls = goes t_slashdash refl (and_then (lines_stay {n = in_text b (at EntrySlashdash fs)} refl refl ls) (goes t_opening refl here))
  to_block Later ls = goes t_slashdash refl (and_then (lines_stay {n = in_text b (at BlockSlashdash fs)} refl refl ls) (goes t_opening refl here))

  -- the terminator
  node_ends : {s r : Text} (p : Spot) → Terminator s r → Ended b fs (in_text b (at (InNode p) fs)) s r
  node_ends p Terminator.semicolon = record { phase = InGap; stands = between; there = goes t_semicolon refl here }
  node_ends p (Terminator.newline n) = record { phase = InGap; stands = between; there = goes (t_newline (Break.newline n)) refl here }
  node_ends p (Terminator.comment n) = record { phase = InGap; stands = between; there = goes (t_newline (Break.comment n)) refl here }
  node_ends p Terminator.at_end = record { phase = InNode p; stands = in_open at_end; there = here }
  node_ends p Terminator.at_close = record { phase = InNode p; stands = in_open at_close; there = here }

  kept_ends : {s r : Text} → Terminator s r → Ended b fs (in_text b (at Kept fs)) s r
  kept_ends Terminator.semicolon = record { phase = InGap; stands = between; there = goes t_semicolon refl here }
  kept_ends (Terminator.newline n) = record { phase = InGap; stands = between; there = goes (t_newline (Break.newline n)) refl here }
  kept_ends (Terminator.comment n) = record { phase = InGap; stands = between; there = goes (t_newline (Break.comment n)) refl here }
  kept_ends Terminator.at_end = record { phase = Kept; stands = kept_open at_end; there = here }
  kept_ends Terminator.at_close = record { phase = Kept; stands = kept_open at_close; there = here }

gap_takes : {b : Bool} {f : Frame} {fs : List Frame} → Takes (in_text b (at InGap (f ∷ fs))) OfName b (f ∷ fs)
gap_takes = record { word = NoKey; to_string = λ v. refl; to_value = λ e v. cc; to_left = refl }

slashdash_takes : {b : Bool} {fs : List Frame} → Takes (in_text b (at NodeSlashdash fs)) OfName b fs
slashdash_takes = record { word = NoKey; to_string = λ v. refl; to_value = λ e v. cc; to_left = refl }

start_takes : Takes node_start OfName true []
start_takes = record { word = NoKey; to_string = λ v. refl; to_value = λ e v. cc; to_left = refl }

-- nothing but a `}` comes there
pub no_line : {s r : Text} → Closed s → LineSpace s r → ⊥
no_line c (LineSpace.space n) = let e = only_close c (t_space n) in cc
no_line c (LineSpace.«break» n) = let e = only_close c (t_newline n) in cc

no_name : {s t r v : Text} {y : Option Text} → Closed s → MaybeType true s t y → IsString true t r v → ⊥
no_name c untyped (a_string' w x) = let e = only_close c (t_string w) in cc
no_name c (typed (parens ss w us) vs) x = let e = only_close c t_left in cc

no_slashdash : {r : Text} → Closed (47 ∷ 45 ∷ r) → ⊥
no_slashdash c = let e = only_close c t_slashdash in cc

mutual
  gap_goes : (b : Bool) (fs : List Frame) → Free b fs → {s r : Text} {p : Phase} → Stands p s → Gap true s r → Ended b fs (in_text b (at p fs)) s r
  gap_goes b fs f {p = p} x no_gap = record { phase = p; stands = x; there = here }
  gap_goes b fs f between (line_space (LineSpace.space n) g) = after (goes (t_space n) (free_space f) here) (gap_goes b fs f between g)
  gap_goes b fs f between (line_space (LineSpace.«break» n) g) = after (goes (t_newline n) (free_newline f) here) (gap_goes b fs f between g)
  gap_goes b fs f between (dropped_node (slashdash ls) (named y z d) e g) =
      let n = a_name b fs slashdash_takes y z in
      let x = name_goes b fs n.word d e in
      after (goes t_slashdash (free_slashdash f) (and_then (lines_stay refl refl ls) (and_then n.there x.there))) (gap_goes b fs f x.stands g)
  gap_goes b fs f (in_open c) (line_space l g) = absurd (no_line c l)
  gap_goes b fs f (kept_open c) (line_space l g) = absurd (no_line c l)
  gap_goes b fs f (in_open c) (dropped_node (slashdash ls) x e g) = absurd (no_slashdash c)
  gap_goes b fs f (kept_open c) (dropped_node (slashdash ls) x e g) = absurd (no_slashdash c)

  name_goes : (b : Bool) (fs : List Frame) (w : ControlWord) → {s r v : Text} {es : List Entry} {k : Children} → AfterName true s r es k → Terminator r v → Ended b fs (in_text b (at (InNode (Fresh w)) fs)) s v
  name_goes b fs w (kept_entry (plus n ss) i d) e =
      let x = an_entry b fs (spaced_takes b fs w) refl i in
      after (goes (t_space n) refl (and_then (spaces_stay {n = in_text b (at (InNode (Spaced w)) fs)} refl ss) x.there)) (name_goes b fs x.word d e)
  name_goes b fs w (dropped_entry ss (slashdash ls) i d) e =
      let x = an_entry b fs (dropped_takes b fs) refl i in
      after (and_then (to_entry b fs w ss ls) x.there) (name_goes b fs x.word d e)
  name_goes b fs w (AfterName.blocks d) e = blocks_go b fs (Fresh w) d e

  blocks_go : (b : Bool) (fs : List Frame) (p : Spot) → {braced : Bool} {s r v : Text} {k : Children} → Blocks true braced s r k → Terminator r v → Ended b fs (in_text b (at (InNode p) fs)) s v
  blocks_go b fs p (dropped_block ss (slashdash ls) (braces ns) d) e =
      let q = a_space b fs p ss in
      let x = nodes_go b DroppedBlock fs between ns in
      after (and_then q.there (and_then (to_block b fs q.spot ls) (and_then x.there (goes t_closing (closes b DroppedBlock fs x.stands) here)))) (blocks_go b fs Later d e)
  blocks_go b fs p (block ss (braces ns) d) e =
      let q = a_space b fs p ss in
      let x = nodes_go b NodeBlock fs between ns in
      after (and_then q.there (goes t_opening refl (and_then x.there (goes t_closing (closes b NodeBlock fs x.stands) here)))) (later_goes b fs d e)
  blocks_go b fs p (no_block ss) e = let q = a_space b fs p ss in after q.there (node_ends b fs q.spot e)

  later_goes : (b : Bool) (fs : List Frame) → {s r v : Text} → AfterBlock true s r → Terminator r v → Ended b fs (in_text b (at Kept fs)) s v
  later_goes b fs (dropped_later ss (slashdash ls) (braces ns) d) e =
      let x = nodes_go b LaterBlock fs between ns in
      after (and_then (spaces_stay refl ss) (goes t_slashdash refl (and_then (lines_stay {n = in_text b (at KeptSlashdash fs)} refl refl ls) (goes t_opening refl (and_then x.there (goes t_closing (closes b LaterBlock fs x.stands) here)))))) (later_goes b fs d e)
  later_goes b fs (no_more ss) e = after (spaces_stay refl ss) (kept_ends b fs e)

  nodes_go : (b : Bool) (f : Frame) (fs : List Frame) → {s r : Text} {xs : Nodes} {p : Phase} → Stands p s → AreNodes true s r xs → Ended b (f ∷ fs) (in_text b (at p (f ∷ fs))) s r
  nodes_go b f fs x (last_gap g) = gap_goes b (f ∷ fs) inside x g
  nodes_go b f fs x (node_then g n e ds) =
      let y = gap_goes b (f ∷ fs) inside x g in
      let z = node_goes b f fs y.stands n e in
      after (and_then y.there z.there) (nodes_go b f fs z.stands ds)

  node_goes : (b : Bool) (f : Frame) (fs : List Frame) → {s r v : Text} {m : Node} {p : Phase} → Stands p s → IsNode true s r m → Terminator r v → Ended b (f ∷ fs) (in_text b (at p (f ∷ fs))) s v
  node_goes b f fs between (named y z d) e = let n = a_name b (f ∷ fs) gap_takes y z in after n.there (name_goes b (f ∷ fs) n.word d e)
  node_goes b f fs (in_open c) (named y z d) e = absurd (no_name c y z)
  node_goes b f fs (kept_open c) (named y z d) e = absurd (no_name c y z)

-- a gap before the node, and the node
pub record Found (s r v : Text) : Type 0 where
  pub phase : Phase
  pub stands : Stands phase v
  pub there : NodeGoes node_start s (in_text true (at phase [])) v

pub found_node : {s t u v : Text} {m : Node} → Gap true s t → IsNode true t u m → Terminator u v → Found s t v
found_node {s = s} {t = t} {v = v} g (named y z d) e =
    let x = gap_goes false [] before between g in
    go x.stands x.there
  where
    go : {p : Phase} → Stands p t → NodeGoes node_start s (in_text false (at p [])) t → Found s t v
    go between h = let n = a_name true [] start_takes y z in let w = name_goes true [] n.word d e in record { phase = w.phase; stands = w.stands; there = and_then h (and_then n.there w.there) }
    go (in_open c) h = absurd (no_name c y z)
    go (kept_open c) h = absurd (no_name c y z)

pub gap_only : {s : Text} → Gap true s [] → (c : NodeControl) × NodeGoes node_start s c [] × (node_finish c ≡ false)
gap_only g = let x = gap_goes false [] before between g in (in_text false (at x.phase []), x.there, refl)
