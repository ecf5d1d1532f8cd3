-- What the machine without data accepts, the grammar derives.
use Rattle.std.proofs.Common.{◌≡◌, ◌⊎◌, inl, inr, Bool, true, false, List, [], ◌∷◌, Option, refl, subst}
use Rattle.kdl_text.specs.Chars.{Text, Star, plus}
use Rattle.kdl_text.specs.Chars.Star.{none as no_star, more}
use Rattle.kdl_text.specs.Trivia.{NodeSpace, Break, newline as b_newline, comment as b_comment, LineSpace, slashdash, ValueEnd}
use Rattle.kdl_value.specs.Data.{Value, text}
use Rattle.kdl_entry.specs.Data.{Entry}
use Rattle.kdl_syntax.specs.Pieces.{StringPiece, PlainPiece}
use Rattle.kdl_entry.specs.Entries.{IsString, string as a_string', IsPlainValue, a_string, a_plain, parens, untyped, typed, IsValue, value as a_value, IsEntry, property as a_property, argument}
use Rattle.kdl_syntax.specs.Tokens.{Token, string, bom, t_space, t_newline, t_slashdash, t_string, t_value, t_left, t_right, t_opening, t_closing, t_equals, t_semicolon, t_bom, Lexes, done, next}
use Rattle.kdl_syntax.proofs.Lexing.TokenUnique.{may_end, value_end}
use Rattle.kdl_grammar.specs.Data.{Node, Children, Nodes}
use Rattle.kdl_grammar.specs.Grammar.{Terminator, IsNode, named, AfterName, kept_entry, dropped_entry, blocks, Blocks, dropped_block, block, no_block, AfterBlock, dropped_later, no_more, no_gap, line_space, dropped_node, AreNodes, last_gap, node_then, IsBlock, braces}
use Rattle.kdl_syntax.specs.Control.{at, spaced_of, popped, finish, held, accepts}
use Rattle.kdl_syntax.specs.declared.control.{Phase.Phase, Spot.Spot, Frame.Frame, Word.Word as ControlWord, Owner.Owner, Word.TheVariants.MayBeKey, Word.TheVariants.NoKey, Owner.TheVariants.Name as OfName, Owner.TheVariants.Value as OfValue}
use Rattle.kdl_syntax.specs.declared.control.Phase.TheVariants.{Gap, NodeSlashdash, TypeOpen, TypeName, TypeDone, InNode, Property, EntrySlashdash, BlockSlashdash, Kept, KeptSlashdash}
use Rattle.kdl_syntax.specs.declared.control.Spot.TheVariants.{Fresh, Spaced, Later}
use Rattle.kdl_syntax.specs.declared.control.Frame.TheVariants.{Node as NodeBlock, Dropped as DroppedBlock, Later as LaterBlock}

-- What is left of the text, by what is under way. `after` says it of the text after the nodes.
abbrev Left : Type 1
Left = Text → Type 0

data NodesThen (after : Left) : Text → Type 0 where
  nodes_then : {s r : Text} {xs : Nodes} → AreNodes true s r xs → after r → NodesThen after s

data EndThen (after : Left) : Text → Type 0 where
  end_then : {s v : Text} → Terminator s v → NodesThen after v → EndThen after s

data NameThen (after : Left) : Text → Type 0 where
  name_then : {s r : Text} {es : List Entry} {k : Children} → AfterName true s r es k → EndThen after r → NameThen after s

data BlocksThen (b : Bool) (after : Left) : Text → Type 0 where
  blocks_then : {s r : Text} {k : Children} → Blocks true b s r k → EndThen after r → BlocksThen b after s

data LaterThen (after : Left) : Text → Type 0 where
  later_then : {s r : Text} → AfterBlock true s r → EndThen after r → LaterThen after s

data NodeThen (after : Left) : Text → Type 0 where
  a_node_then : {s r : Text} {x : Node} → IsNode true s r x → EndThen after r → NodeThen after s

data EntryThen (after : Left) : Text → Type 0 where
  entry_then : {s r : Text} {e : Entry} → IsEntry true s r e → NameThen after r → EntryThen after s

data ValueThen (after : Left) : Text → Type 0 where
  value_then : {s t r : Text} {y : Option Text} {v : Value} → Star NodeSpace s t → IsValue true t r y v → NameThen after r → ValueThen after s

-- a name is a string, a value may be of any kind
data Fills : Owner → Text → Text → Type 0 where
  by_string : {b : Owner} {s r v : Text} → IsString true s r v → Fills b s r
  by_plain : {s r : Text} {v : Value} → PlainPiece s r v → ValueEnd true r → Fills OfValue s r

data DoneThen (b : Owner) (after : Left) : Text → Type 0 where
  done_then : {s t r : Text} → Star NodeSpace s t → Fills b t r → NameThen after r → DoneThen b after s

data TypeNameThen (b : Owner) (after : Left) : Text → Type 0 where
  type_name_then : {s t : Text} → Star NodeSpace s (41 ∷ t) → DoneThen b after t → TypeNameThen b after s

data TypeOpenThen (b : Owner) (after : Left) : Text → Type 0 where
  type_open_then : {s t u v : Text} → Star NodeSpace s t → IsString true t u v → TypeNameThen b after u → TypeOpenThen b after s

data KeyThen (after : Left) : Text → Type 0 where
  key_then : {s t : Text} → Star NodeSpace s (61 ∷ t) → ValueThen after t → KeyThen after s

data BlockThen (after : Left) : Text → Type 0 where
  block_then : {s r : Text} {xs : Nodes} → IsBlock true s r xs → after r → BlockThen after s

data SlashdashThen (after : Left) : Text → Type 0 where
  slashdash_then : {s t : Text} → Star LineSpace s t → after t → SlashdashThen after s

-- an entry or a block, to be dropped
abbrev DropThen : Left → Left
DropThen after s = EntryThen after s ⊎ BlockThen (BlocksThen true after) s

abbrev AfterNodes : List Frame → Left
AfterNodes [] s = s ≡ []
AfterNodes (NodeBlock ∷ fs) s = (t : Text) × (s ≡ 125 ∷ t) × LaterThen (AfterNodes fs) t
AfterNodes (DroppedBlock ∷ fs) s = (t : Text) × (s ≡ 125 ∷ t) × BlocksThen true (AfterNodes fs) t
AfterNodes (LaterBlock ∷ fs) s = (t : Text) × (s ≡ 125 ∷ t) × LaterThen (AfterNodes fs) t

abbrev Key : ControlWord → Left → Left
Key NoKey after s = ⊥
Key MayBeKey after s = KeyThen after s

abbrev AtSpot : Spot → Left → Left
AtSpot (Fresh b) after s = NameThen after s ⊎ Key b after s
AtSpot (Spaced b) after s = (NameThen after s ⊎ EntryThen after s) ⊎ Key b after s
AtSpot Later after s = BlocksThen true after s

abbrev RestOf : Phase → Left → Left
RestOf Gap after s = NodesThen after s
RestOf NodeSlashdash after s = SlashdashThen (NodeThen after) s
RestOf (TypeOpen b) after s = TypeOpenThen b after s
RestOf (TypeName b) after s = TypeNameThen b after s
RestOf (TypeDone b) after s = DoneThen b after s
RestOf (InNode p) after s = AtSpot p after s
RestOf Property after s = ValueThen after s
RestOf EntrySlashdash after s = SlashdashThen (DropThen after) s
RestOf BlockSlashdash after s = SlashdashThen (BlockThen (BlocksThen true after)) s
RestOf Kept after s = LaterThen after s
RestOf KeptSlashdash after s = SlashdashThen (BlockThen (LaterThen after)) s

abbrev Rest : Phase → List Frame → Left
Rest p fs s = RestOf p (AfterNodes fs) s

fresh_end : (ks : List Token) (b : ControlWord) (fs : List Frame) → accepts (at (InNode (Fresh b)) fs) ks ≡ true → may_end ks ≡ true
fresh_end [] b fs e = refl
fresh_end (string v ∷ ks) b fs e = cc
fresh_end (k ∷ ks) b fs e = cc

type_end : (ks : List Token) (b : Owner) (fs : List Frame) → accepts (at (TypeName b) fs) ks ≡ true → may_end ks ≡ true
type_end [] b fs e = refl
type_end (string v ∷ ks) b fs e = cc
type_end (k ∷ ks) b fs e = cc

any_value : {b : Owner} {s r : Text} → Fills b s r → (v : Value) × IsPlainValue true s r v
any_value (by_string {v = v} d) = (text v, a_string d)
any_value (by_plain {v = v} p e) = (v, a_plain p e)

module _ (after : Left) where
  nodes_space : {s r : Text} → LineSpace s r → NodesThen after r → NodesThen after s
  nodes_space n (nodes_then (last_gap g) f) = nodes_then (last_gap (line_space n g)) f
  nodes_space n (nodes_then (node_then g x e d) f) = nodes_then (node_then (line_space n g) x e d) f

  nodes_slashdash : {s : Text} → SlashdashThen (NodeThen after) s → NodesThen after (47 ∷ 45 ∷ s)
  nodes_slashdash (slashdash_then ls (a_node_then x (end_then e (nodes_then (last_gap g) f)))) = nodes_then (last_gap (dropped_node (slashdash ls) x e g)) f
  nodes_slashdash (slashdash_then ls (a_node_then x (end_then e (nodes_then (node_then g y e' d) f)))) = nodes_then (node_then (dropped_node (slashdash ls) x e g) y e' d) f

  nodes_node : {s : Text} → NodeThen after s → NodesThen after s
  nodes_node (a_node_then x (end_then e (nodes_then d f))) = nodes_then (node_then no_gap x e d) f

  no_key : {s : Text} → NameThen after s ⊎ Key NoKey after s → NameThen after s
  no_key (inl d) = d
  no_key (inr d) = absurd d

  node_of : {s r v : Text} → IsString true s r v → NameThen after r → NodeThen after s
  node_of w (name_then d e) = a_node_then (named untyped w d) e

  node_typed : {s : Text} → TypeOpenThen OfName after s → NodeThen after (40 ∷ s)
  node_typed (type_open_then ss w (type_name_then us (done_then vs (by_string v) (name_then d e)))) = a_node_then (named (typed (parens ss w us) vs) v d) e

  value_of : {s r : Text} {v : Value} → IsPlainValue true s r v → NameThen after r → ValueThen after s
  value_of w d = value_then no_star (a_value untyped w) d

  value_typed : {s : Text} → TypeOpenThen OfValue after s → ValueThen after (40 ∷ s)
  value_typed (type_open_then ss w (type_name_then us (done_then vs f d))) = let p = any_value f in value_then no_star (a_value (typed (parens ss w us) vs) p.1) d

  entry_typed : {s : Text} → TypeOpenThen OfValue after s → EntryThen after (40 ∷ s)
  entry_typed (type_open_then ss w (type_name_then us (done_then vs f d))) = let p = any_value f in entry_then (argument (a_value (typed (parens ss w us) vs) p.1)) d

  entry_of : {s r v : Text} → IsString true s r v → NameThen after r ⊎ KeyThen after r → EntryThen after s
  entry_of w (inl d) = entry_then (argument (a_value untyped (a_string w))) d
  entry_of w (inr (key_then ss (value_then us v d))) = entry_then (a_property w ss us v) d

  entry_plain : {s r : Text} {v : Value} → IsPlainValue true s r v → NameThen after r → EntryThen after s
  entry_plain w d = entry_then (argument (a_value untyped w)) d

  space_value : {s r : Text} → NodeSpace s r → ValueThen after r → ValueThen after s
  space_value n (value_then ss v d) = value_then (more n ss) v d

  space_open : {b : Owner} {s r : Text} → NodeSpace s r → TypeOpenThen b after r → TypeOpenThen b after s
  space_open n (type_open_then ss v d) = type_open_then (more n ss) v d

  space_type_name : {b : Owner} {s r : Text} → NodeSpace s r → TypeNameThen b after r → TypeNameThen b after s
  space_type_name n (type_name_then ss d) = type_name_then (more n ss) d

  space_done : {b : Owner} {s r : Text} → NodeSpace s r → DoneThen b after r → DoneThen b after s
  space_done n (done_then ss v d) = done_then (more n ss) v d

  space_slashdash : {s r : Text} → LineSpace s r → SlashdashThen after r → SlashdashThen after s
  space_slashdash n (slashdash_then ls f) = slashdash_then (more n ls) f

  name_of_blocks : {s : Text} → BlocksThen false after s → NameThen after s
  name_of_blocks (blocks_then d e) = name_then (blocks d) e

  lift : {s : Text} (p : Spot) → ((b : Bool) → BlocksThen b after s) → AtSpot p after s
  lift (Fresh b) d = inl (name_of_blocks (d false))
  lift (Spaced b) d = inl (inl (name_of_blocks (d false)))
  lift Later d = d true

  space_blocks : {b : Bool} {s r : Text} → NodeSpace s r → BlocksThen b after r → BlocksThen b after s
  space_blocks n (blocks_then (dropped_block ss m b d) e) = blocks_then (dropped_block (more n ss) m b d) e
  space_blocks n (blocks_then (block ss b d) e) = blocks_then (block (more n ss) b d) e
  space_blocks n (blocks_then (no_block ss) e) = blocks_then (no_block (more n ss)) e

  space_name : {s r : Text} → NodeSpace s r → NameThen after r → NameThen after s
  space_name n (name_then (kept_entry (plus m ss) i d) e) = name_then (kept_entry (plus n (more m ss)) i d) e
  space_name n (name_then (dropped_entry ss m i d) e) = name_then (dropped_entry (more n ss) m i d) e
  space_name n (name_then (blocks d) e) = name_of_blocks (space_blocks n (blocks_then d e))

  space_entry : {s r : Text} → NodeSpace s r → NameThen after r ⊎ EntryThen after r → NameThen after s
  space_entry n (inl d) = space_name n d
  space_entry n (inr (entry_then i (name_then d e))) = name_then (kept_entry (plus n no_star) i d) e

  space_key : {s r : Text} (b : ControlWord) → NodeSpace s r → Key b after r → Key b after s
  space_key NoKey n k = k
  space_key MayBeKey n (key_then ss v) = key_then (more n ss) v

  space_at : {s r : Text} (p : Spot) → NodeSpace s r → AtSpot (spaced_of p) after r → AtSpot p after s
  space_at (Fresh b) n (inl d) = inl (space_entry n d)
  space_at (Fresh b) n (inr k) = inr (space_key b n k)
  space_at (Spaced b) n (inl d) = inl (inl (space_entry n d))
  space_at (Spaced b) n (inr k) = inr (space_key b n k)
  space_at Later n d = space_blocks n d

  space_later : {s r : Text} → NodeSpace s r → LaterThen after r → LaterThen after s
  space_later n (later_then (dropped_later ss m b d) e) = later_then (dropped_later (more n ss) m b d) e
  space_later n (later_then (no_more ss) e) = later_then (no_more (more n ss)) e

  name_slashdash : {s : Text} → SlashdashThen (DropThen after) s → NameThen after (47 ∷ 45 ∷ s)
  name_slashdash (slashdash_then ls (inl (entry_then i (name_then d e)))) = name_then (dropped_entry no_star (slashdash ls) i d) e
  name_slashdash (slashdash_then ls (inr (block_then b (blocks_then d e)))) = name_then (blocks (dropped_block no_star (slashdash ls) b d)) e

  blocks_slashdash : {s : Text} → SlashdashThen (BlockThen (BlocksThen true after)) s → BlocksThen true after (47 ∷ 45 ∷ s)
  blocks_slashdash (slashdash_then ls (block_then b (blocks_then d e))) = blocks_then (dropped_block no_star (slashdash ls) b d) e

  later_slashdash : {s : Text} → SlashdashThen (BlockThen (LaterThen after)) s → LaterThen after (47 ∷ 45 ∷ s)
  later_slashdash (slashdash_then ls (block_then b (later_then d e))) = later_then (dropped_later no_star (slashdash ls) b d) e

  blocks_end : {s v : Text} → Terminator s v → NodesThen after v → (b : Bool) → BlocksThen b after s
  blocks_end e d b = blocks_then (no_block no_star) (end_then e d)

  later_end : {s v : Text} → Terminator s v → NodesThen after v → LaterThen after s
  later_end e d = later_then (no_more no_star) (end_then e d)

  end_nodes : {s : Text} → after s → NodesThen after s
  end_nodes f = nodes_then (last_gap no_gap) f

  -- the nodes of a block
  braced : {P : Left} {s : Text} → NodesThen (λ u. (t : Text) × (u ≡ 125 ∷ t) × P t) s → BlockThen P (123 ∷ s)
  braced {P = P} {s = s} (nodes_then {xs = xs} d (t, e, f)) = block_then (braces (subst (λ (r : Text). AreNodes true s r xs) e d)) f

  blocks_open : {s : Text} → BlockThen (LaterThen after) s → (b : Bool) → BlocksThen b after s
  blocks_open (block_then b (later_then d e)) c = blocks_then (block no_star b d) e

terminator : {s r : Text} → Break s r → Terminator s r
terminator (b_newline n) = Terminator.newline n
terminator (b_comment n) = Terminator.comment n

closes : (r : Text) (ks : List Token) → ((p : Phase) (fs : List Frame) → accepts (at p fs) ks ≡ true → Rest p fs r) → (fs : List Frame) → held (λ c. accepts c ks) (popped fs) ≡ true → NodesThen (AfterNodes fs) (125 ∷ r)
closes r ks go [] e = absurd cc
closes r ks go (NodeBlock ∷ fs) e = end_nodes (AfterNodes (NodeBlock ∷ fs)) (r, refl, go Kept fs e)
closes r ks go (DroppedBlock ∷ fs) e = end_nodes (AfterNodes (DroppedBlock ∷ fs)) (r, refl, go (InNode Later) fs e)
closes r ks go (LaterBlock ∷ fs) e = end_nodes (AfterNodes (LaterBlock ∷ fs)) (r, refl, go Kept fs e)

ends : (p : Spot) (fs : List Frame) → finish (at (InNode p) fs) ≡ true → AtSpot p (AfterNodes fs) []
ends p [] e = lift (AfterNodes []) p (blocks_end (AfterNodes []) Terminator.at_end (end_nodes (AfterNodes []) refl))
ends p (f ∷ fs) e = absurd cc

-- the string, or the value, before the name's rest
named_by : {s r v : Text} {ks : List Token} (fs : List Frame) (b : ControlWord) → StringPiece s r v → Lexes r ks → accepts (at (InNode (Fresh b)) fs) ks ≡ true → IsString true s r v
named_by {ks = ks} fs b p l e = a_string' p (value_end l (fresh_end ks b fs e))

valued_by : {s r : Text} {v : Value} {ks : List Token} (fs : List Frame) → PlainPiece s r v → Lexes r ks → accepts (at (InNode (Fresh NoKey)) fs) ks ≡ true → ValueEnd true r
valued_by {ks = ks} fs p l e = value_end l (fresh_end ks NoKey fs e)

-- U+FEFF comes nowhere
no_bom_here : (p : Phase) (fs : List Frame) (ks : List Token) → accepts (at p fs) (bom ∷ ks) ≡ true → ⊥
no_bom_here Gap fs ks e = absurd cc
no_bom_here _ fs ks e = absurd cc

sound : {s : Text} {ks : List Token} → Lexes s ks → (p : Phase) (fs : List Frame) → accepts (at p fs) ks ≡ true → Rest p fs s
sound done Gap [] e = end_nodes (AfterNodes []) refl
sound done (InNode p) fs e = ends p fs e
sound done Kept [] e = later_end (AfterNodes []) Terminator.at_end (end_nodes (AfterNodes []) refl)
sound (next (t_space n) l) Gap fs e = nodes_space (AfterNodes fs) (LineSpace.space n) (sound l Gap fs e)
sound (next (t_newline n) l) Gap fs e = nodes_space (AfterNodes fs) (LineSpace.«break» n) (sound l Gap fs e)
sound (next t_slashdash l) Gap fs e = nodes_slashdash (AfterNodes fs) (sound l NodeSlashdash fs e)
sound (next (t_string w) l) Gap fs e = nodes_node (AfterNodes fs) (node_of (AfterNodes fs) (named_by fs NoKey w l e) (no_key (AfterNodes fs) (sound l (InNode (Fresh NoKey)) fs e)))
sound (next t_left l) Gap fs e = nodes_node (AfterNodes fs) (node_typed (AfterNodes fs) (sound l (TypeOpen OfName) fs e))
sound (next t_closing l) Gap fs e = closes _ _ (λ p fs e. sound l p fs e) fs e
sound (next (t_space n) l) NodeSlashdash fs e = space_slashdash (NodeThen (AfterNodes fs)) (LineSpace.space n) (sound l NodeSlashdash fs e)
sound (next (t_newline n) l) NodeSlashdash fs e = space_slashdash (NodeThen (AfterNodes fs)) (LineSpace.«break» n) (sound l NodeSlashdash fs e)
sound (next (t_string w) l) NodeSlashdash fs e = slashdash_then no_star (node_of (AfterNodes fs) (named_by fs NoKey w l e) (no_key (AfterNodes fs) (sound l (InNode (Fresh NoKey)) fs e)))
sound (next t_left l) NodeSlashdash fs e = slashdash_then no_star (node_typed (AfterNodes fs) (sound l (TypeOpen OfName) fs e))
sound (next (t_space n) l) (TypeOpen b) fs e = space_open (AfterNodes fs) n (sound l (TypeOpen b) fs e)
sound (next {ks = ks} (t_string w) l) (TypeOpen b) fs e = type_open_then no_star (a_string' w (value_end l (type_end ks b fs e))) (sound l (TypeName b) fs e)
sound (next (t_space n) l) (TypeName b) fs e = space_type_name (AfterNodes fs) n (sound l (TypeName b) fs e)
sound (next t_right l) (TypeName b) fs e = type_name_then no_star (sound l (TypeDone b) fs e)
sound (next (t_space n) l) (TypeDone b) fs e = space_done (AfterNodes fs) n (sound l (TypeDone b) fs e)
sound (next (t_string w) l) (TypeDone OfName) fs e = done_then no_star (by_string (named_by fs NoKey w l e)) (no_key (AfterNodes fs) (sound l (InNode (Fresh NoKey)) fs e))
sound (next (t_string w) l) (TypeDone OfValue) fs e = done_then no_star (by_string (named_by fs NoKey w l e)) (no_key (AfterNodes fs) (sound l (InNode (Fresh NoKey)) fs e))
sound (next (t_value w) l) (TypeDone OfValue) fs e = done_then no_star (by_plain w (valued_by fs w l e)) (no_key (AfterNodes fs) (sound l (InNode (Fresh NoKey)) fs e))
sound (next (t_value w) l) (TypeDone OfName) fs e = absurd cc
sound (next (t_space n) l) Property fs e = space_value (AfterNodes fs) n (sound l Property fs e)
sound (next (t_string w) l) Property fs e = value_of (AfterNodes fs) (a_string (named_by fs NoKey w l e)) (no_key (AfterNodes fs) (sound l (InNode (Fresh NoKey)) fs e))
sound (next (t_value w) l) Property fs e = value_of (AfterNodes fs) (a_plain w (valued_by fs w l e)) (no_key (AfterNodes fs) (sound l (InNode (Fresh NoKey)) fs e))
sound (next t_left l) Property fs e = value_typed (AfterNodes fs) (sound l (TypeOpen OfValue) fs e)
sound (next (t_space n) l) (InNode p) fs e = space_at (AfterNodes fs) p n (sound l (InNode (spaced_of p)) fs e)
sound (next (t_newline n) l) (InNode p) fs e = lift (AfterNodes fs) p (blocks_end (AfterNodes fs) (terminator n) (sound l Gap fs e))
sound (next t_semicolon l) (InNode p) fs e = lift (AfterNodes fs) p (blocks_end (AfterNodes fs) Terminator.semicolon (sound l Gap fs e))
sound (next t_closing l) (InNode p) fs e = lift (AfterNodes fs) p (blocks_end (AfterNodes fs) Terminator.at_close (closes _ _ (λ p fs e. sound l p fs e) fs e))
sound (next t_opening l) (InNode p) fs e = lift (AfterNodes fs) p (blocks_open (AfterNodes fs) (braced (AfterNodes fs) (sound l Gap (NodeBlock ∷ fs) e)))
sound (next t_slashdash l) (InNode (Fresh b)) fs e = inl (name_slashdash (AfterNodes fs) (sound l EntrySlashdash fs e))
sound (next t_slashdash l) (InNode (Spaced b)) fs e = inl (inl (name_slashdash (AfterNodes fs) (sound l EntrySlashdash fs e)))
sound (next t_slashdash l) (InNode Later) fs e = blocks_slashdash (AfterNodes fs) (sound l BlockSlashdash fs e)
sound (next (t_string w) l) (InNode (Spaced b)) fs e = inl (inr (entry_of (AfterNodes fs) (named_by fs MayBeKey w l e) (sound l (InNode (Fresh MayBeKey)) fs e)))
sound (next (t_value w) l) (InNode (Spaced b)) fs e = inl (inr (entry_plain (AfterNodes fs) (a_plain w (valued_by fs w l e)) (no_key (AfterNodes fs) (sound l (InNode (Fresh NoKey)) fs e))))
sound (next t_left l) (InNode (Spaced b)) fs e = inl (inr (entry_typed (AfterNodes fs) (sound l (TypeOpen OfValue) fs e)))
sound (next t_equals l) (InNode (Fresh MayBeKey)) fs e = inr (key_then no_star (sound l Property fs e))
sound (next t_equals l) (InNode (Spaced MayBeKey)) fs e = inr (key_then no_star (sound l Property fs e))
sound (next (t_space n) l) EntrySlashdash fs e = space_slashdash (DropThen (AfterNodes fs)) (LineSpace.space n) (sound l EntrySlashdash fs e)
sound (next (t_newline n) l) EntrySlashdash fs e = space_slashdash (DropThen (AfterNodes fs)) (LineSpace.«break» n) (sound l EntrySlashdash fs e)
sound (next (t_string w) l) EntrySlashdash fs e = slashdash_then no_star (inl (entry_of (AfterNodes fs) (named_by fs MayBeKey w l e) (sound l (InNode (Fresh MayBeKey)) fs e)))
sound (next (t_value w) l) EntrySlashdash fs e = slashdash_then no_star (inl (entry_plain (AfterNodes fs) (a_plain w (valued_by fs w l e)) (no_key (AfterNodes fs) (sound l (InNode (Fresh NoKey)) fs e))))
sound (next t_left l) EntrySlashdash fs e = slashdash_then no_star (inl (entry_typed (AfterNodes fs) (sound l (TypeOpen OfValue) fs e)))
sound (next t_opening l) EntrySlashdash fs e = slashdash_then no_star (inr (braced (AfterNodes fs) (sound l Gap (DroppedBlock ∷ fs) e)))
sound (next (t_space n) l) BlockSlashdash fs e = space_slashdash (BlockThen (BlocksThen true (AfterNodes fs))) (LineSpace.space n) (sound l BlockSlashdash fs e)
sound (next (t_newline n) l) BlockSlashdash fs e = space_slashdash (BlockThen (BlocksThen true (AfterNodes fs))) (LineSpace.«break» n) (sound l BlockSlashdash fs e)
sound (next t_opening l) BlockSlashdash fs e = slashdash_then no_star (braced (AfterNodes fs) (sound l Gap (DroppedBlock ∷ fs) e))
sound (next (t_space n) l) Kept fs e = space_later (AfterNodes fs) n (sound l Kept fs e)
sound (next (t_newline n) l) Kept fs e = later_end (AfterNodes fs) (terminator n) (sound l Gap fs e)
sound (next t_semicolon l) Kept fs e = later_end (AfterNodes fs) Terminator.semicolon (sound l Gap fs e)
sound (next t_closing l) Kept fs e = later_end (AfterNodes fs) Terminator.at_close (closes _ _ (λ p fs e. sound l p fs e) fs e)
sound (next t_slashdash l) Kept fs e = later_slashdash (AfterNodes fs) (sound l KeptSlashdash fs e)
sound (next (t_space n) l) KeptSlashdash fs e = space_slashdash (BlockThen (LaterThen (AfterNodes fs))) (LineSpace.space n) (sound l KeptSlashdash fs e)
sound (next (t_newline n) l) KeptSlashdash fs e = space_slashdash (BlockThen (LaterThen (AfterNodes fs))) (LineSpace.«break» n) (sound l KeptSlashdash fs e)
sound (next t_opening l) KeptSlashdash fs e = slashdash_then no_star (braced (AfterNodes fs) (sound l Gap (LaterBlock ∷ fs) e))
sound (next {ks = ks} t_bom l) p fs e = absurd (no_bom_here p fs ks e)
sound l p fs e = absurd cc

-- a text that is cut into tokens which the machine accepts is derived
pub derives : {s : Text} {ks : List Token} → Lexes s ks → accepts (at Gap []) ks ≡ true → (xs : Nodes) × AreNodes true s [] xs
derives {s = s} l e = whole (sound l Gap [] e)
  where
    whole : NodesThen (AfterNodes []) s → (xs : Nodes) × AreNodes true s [] xs
    whole (nodes_then {xs = xs} d f) = (xs, subst (λ (r : Text). AreNodes true s r xs) f d)
