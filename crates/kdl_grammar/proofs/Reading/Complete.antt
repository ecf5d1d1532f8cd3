-- What the grammar derives, the machine reads, and the tree that it builds is laid.
use Rattle.std.proofs.Common.{◌≡◌, Bool, true, List, [], ◌∷◌, ◌++◌, Option, Some, None, option_map, map, refl, sym, ap, subst, ◌∙◌, append_assoc, append-nil}
use Rattle.kdl_text.specs.Chars.{Text, Star, plus}
use Rattle.kdl_text.specs.Chars.Star.{none as no_star, more}
use Rattle.kdl_text.specs.Trivia.{NodeSpace, Break, LineSpace, Slashdash, slashdash, ValueEnd}
use Rattle.kdl_text.specs.declared.span.SourceSpan.{SourceSpan}
use Rattle.kdl_text.proofs.Looking.Ends.{then, end_star}
use Rattle.kdl_text.proofs.Looking.Stars.{snoc}
use Rattle.kdl_entry.specs.Data as entry_data'
use Rattle.kdl_value.specs.Data.{Value, text}
use Rattle.kdl_syntax.specs.Pieces.{PlainPiece}
use Rattle.kdl_entry.specs.Entries.{IsString, string as a_string', IsPlainValue, a_string, a_plain, parens, MaybeType, untyped, typed as a_typed, value as a_value, IsEntry, property as a_property, argument}
use Rattle.kdl_entry.specs.Laid.{LaidIdentifier, spelled, LaidType, no_type, a_type, no_key, a_key, LaidItem, item, laid_entry}
use Rattle.kdl_entry.specs.Places.{Is, DroppedEntry, leading as an_entry_leading, span_of, between}
use Rattle.kdl_syntax.specs.Tokens.{Token, space, newline, string, value, left, closing, semicolon, t_space, t_newline, t_slashdash, t_string, t_value, t_left, t_right, t_opening, t_closing, t_equals, t_semicolon}
use Rattle.kdl_entry.specs.Tree.{Identifier, Entry, entry_data}
use Rattle.kdl_syntax.proofs.Lexing.TokenUnique.{token_det, no_token}
use Rattle.kdl_entry.proofs.Moving.EntryEnds.{end_spaces, end_lines, end_some, end_string, end_plain, end_dropped}
use Rattle.kdl_entry.proofs.Slicing.Placing.{place}
use Rattle.kdl_grammar.specs.Data as data'
use Rattle.kdl_grammar.specs.Grammar.{Terminator, named, AfterName, kept_entry, dropped_entry, Blocks, dropped_block, block, no_block, AfterBlock, dropped_later, no_more, Gap, no_gap, line_space, dropped_node, AreNodes, last_gap, node_then, braces, IsDocument, IsDocumentIn, IsNodeText, node_text}
use Rattle.kdl_grammar.specs.Laid.{content_span}
use Rattle.kdl_grammar.specs.Laid.{LaidEntries, no_entry, an_entry, laid_node, LaidChildren, no_block as laid_no_block, a_block, LaidNodes, no_node, a_node, LaidContent, without_nodes, with_nodes, LaidDocument, LaidDocumentAs, with_bom, node_format, LaidNodeText, laid_node_text}
use Rattle.kdl_grammar.specs.Places.{DroppedBlock, AfterChildren, after as after_children, before as before_children}
use Rattle.kdl_grammar.specs.Tree.{Node, node, Children, no_children, children, Document, document, Nodes, none, first, join, node_data, children_data, document_data, nodes_data}
use Rattle.kdl_entry.specs.Internal.Parts.{TypeParts, KeyParts, type_of, before_name, after_name, after_type, key_identifier, identifier_at, entry_at}
use Rattle.kdl_grammar.specs.Internal.Machine.{Under, Kept, Slot, no_name, for_name, no_value, for_value, Pending, pending, Spot, fresh, spaced, later, gap, node_slashdash, type_name, type_done, in_node, property, entry_slashdash, block_slashdash, kept, kept_slashdash, Frame, in_block, in_dropped, in_later, State, at, origin, moved, entry_slot, kept_text, kept_name, text_before, opened, keyed, with_entry, filled, node_at, closed, closed_kept, ended, inside, content_at, spaced_of, given, worded, typed, step, finish, initial, Runs, stops, reads, AnswersDocument}
use Rattle.kdl_grammar.proofs.Moving.Ends.{end_terminator, end_gap, end_dropped_block}
use Rattle.kdl_syntax.specs.declared.control.{Owner.Owner, Owner.TheVariants.Name as OfName, Owner.TheVariants.Value as OfValue}
pub mod OneLaid

pub runs_det : {whole : Text} {x y : Document} {st : State} {s : Text} → Runs whole x st s → Runs whole y st s → x ≡ y
runs_det (stops e) (stops f) = cc
runs_det (stops e) (reads t f b) = absurd (no_token t)
runs_det (reads t e a) (stops f) = absurd (no_token t)
runs_det {whole = whole} {y = y} {st = st} {s = s} (reads {st' = m} {r = r} {k = k} t e a) (reads {st' = n} {r = r'} {k = k'} u f b) =
    let d = token_det t u in
    let same : m ≡ n = cc in
    runs_det a (subst (λ r. Runs whole y m r) (sym d.0) (subst (λ st. Runs whole y st r') (sym same) b))

pub join_none : (xs : Nodes) → join xs none ≡ xs
join_none none = refl
join_none (first x xs) = ap (first x) (join_none xs)

join_join : (xs ys zs : Nodes) → join (join xs ys) zs ≡ join xs (join ys zs)
join_join none ys zs = refl
join_join (first x xs) ys zs = ap (first x) (join_join xs ys zs)

abbrev extended : Option Nodes → Nodes → Option Nodes
extended None ys = None
extended (Some xs) ys = Some (join xs ys)

extended_none : (l : Option Nodes) → extended l none ≡ l
extended_none None = refl
extended_none (Some xs) = ap Some (join_none xs)

abbrev add : Option Under → Entry → Option Under
add None e = None
add (Some u) e = Some (with_entry u e)

-- what is between a node's last entry and the text after it
record Tail : Type 0 where
  k : Children
  before : Text
  place : Text
  end : Text

abbrev tail_of : Children → Text → Text → Text → Tail
tail_of k before place end = record { k = k; before = before; place = place; end = end }

-- the value of an entry may be of any kind, a name is a string
data Fills : Owner → Text → Text → Value → Type 0 where
  by_string : {b : Owner} {s r v : Text} → IsString true s r v → Fills b s r (text v)
  by_plain : {s r : Text} {v : Value} → PlainPiece s r v → ValueEnd true r → Fills OfValue s r v

value_fills : {s r : Text} {v : Value} → IsPlainValue true s r v → Fills OfValue s r v
value_fills (a_string d) = by_string d
value_fills (a_plain p e) = by_plain p e

abbrev slot_of : Slot → Option KeyParts → Slot
slot_of c None = c
slot_of c (Some k) = keyed c k

moved_twice : (c : Slot) (k : KeyParts) (from a r : Text) → moved (keyed c k) from r ≡ moved (keyed c k) (moved c from a) r
moved_twice no_name k from a r = refl
moved_twice (for_name q s) k from a r = refl
moved_twice (no_value u) k from a r = refl
moved_twice (for_value u q s k') k from a r = refl

slot_between : (u : Option Under) (from p s : Text) → entry_slot u (between p s) s ≡ entry_slot u (between (origin u from p) s) s
slot_between None from p s = refl
slot_between (Some u) from p s = refl

origin_add : (u : Option Under) (e : Entry) (from t : Text) → origin (add u e) from t ≡ origin u from t
origin_add None e from t = refl
origin_add (Some u) e from t = refl

module _ (whole : Text) where
  abbrev tailed : Option Under → Tail → Text → Option Node
  tailed u t s = closed whole u t.k t.before t.place t.end s

  abbrev made : Option Under → List Entry → Tail → Text → Option Node
  made u [] t s = tailed u t s
  made u (e ∷ es) t s = made (add u e) es t s

  made_none : (es : List Entry) (t : Tail) (s : Text) → made None es t s ≡ None
  made_none [] t s = refl
  made_none (e ∷ es) t s = made_none es t s

  made_some : (u : Under) (es : List Entry) (t : Tail) (s : Text) → made (Some u) es t s ≡ Some (node_at whole (record u { entries = u.entries ++ es }) t.k t.before t.place t.end s)
  made_some u [] t s = ap (λ (z : List Entry). Some (node_at whole (record u { entries = z }) t.k t.before t.place t.end s)) (sym (append-nil u.entries))
  made_some u (e ∷ es) t s =
      made_some (with_entry u e) es t s ∙ ap (λ (z : List Entry). Some (node_at whole (record u { entries = z }) t.k t.before t.place t.end s)) (append_assoc u.entries (e ∷ []) es)

  after_dropped : (u : Option Under) (k : Option KeyParts) (y : Option TypeParts) (v : Value) (o : Option Pending) (l : Option Nodes) (fs : List Frame) (from a r : Text)
      → at (in_node u (fresh o)) l fs from ≡ given whole (slot_of (no_value u) k) y v o l fs from a r
  after_dropped u None y v o l fs from a r = refl
  after_dropped u (Some k) y v o l fs from a r = refl

  after_value : (u : Option Under) (k : Option KeyParts) (y : Option TypeParts) (v : Value) (o : Option Pending) (l : Option Nodes) (fs : List Frame) (q b from p a r : Text)
      → at (in_node (add u (entry_at (span_of whole b r) q k y v (between a r))) (fresh o)) l fs (origin u from r) ≡ given whole (slot_of (entry_slot u q b) k) y v o l fs (origin u from p) a r
  after_value None None y v o l fs q b from p a r = refl
  after_value None (Some k) y v o l fs q b from p a r = refl
  after_value (Some u) None y v o l fs q b from p a r = refl
  after_value (Some u) (Some k) y v o l fs q b from p a r = refl

  stay : (out : Document) → {s r : Text} (st : State) → ((s r : Text) → step whole st space s r ≡ Some st) → Star NodeSpace s r → Runs whole out st r → Runs whole out st s
  stay out st e no_star a = a
  stay out st e (more n m) a = reads (t_space n) (e _ _) (stay out st e m a)

  lines : (out : Document) → {s r : Text} (st : State) → ((s r : Text) → step whole st space s r ≡ Some st) → ((s r : Text) → step whole st newline s r ≡ Some st) → Star LineSpace s r → Runs whole out st r → Runs whole out st s
  lines out st e f no_star a = a
  lines out st e f (more (LineSpace.space n) m) a = reads (t_space n) (e _ _) (lines out st e f m a)
  lines out st e f (more (LineSpace.«break» n) m) a = reads (t_newline n) (f _ _) (lines out st e f m a)

  read_string : (out : Document) → {s r v : Text} {st st' : State} → IsString true s r v → step whole st (string v) s r ≡ Some st' → Runs whole out st' r → Runs whole out st s
  read_string out (a_string' p e) f a = reads (t_string p) f a

  -- a state that takes a string here, or a type first, and a value where one may be
  record Takes (b : Owner) (st : State) (s : Text) (c : Slot) (l : Option Nodes) (fs : List Frame) (from : Text) : Type 0 where
    to_string : (v r : Text) → (o : Option Pending) × (step whole st (string v) s r ≡ Some (given whole c None (text v) o l fs from s r))
    to_value : b ≡ OfValue → (v : Value) (r : Text) → step whole st (value v) s r ≡ Some (given whole c None v None l fs from s r)
    to_left : (r : Text) → step whole st left s r ≡ Some (at (opened b c r) l fs from)

  read_fill : (out : Document) → {b : Owner} {s r : Text} {v : Value} → Fills b s r v → (st : State) (c : Slot) (l : Option Nodes) (fs : List Frame) (from : Text) → Takes b st s c l fs from
      → ((o : Option Pending) → Runs whole out (given whole c None v o l fs from s r) r) → Runs whole out st s
  read_fill out {r = r} (by_string {v = v} d) st c l fs from k a = let q = k.to_string v r in read_string out d q.1 (a q.0)
  read_fill out {r = r} (by_plain {v = v} p e) st c l fs from k a = reads (t_value p) (k.to_value refl v r) (a None)

  read_done : (out : Document) → {b : Owner} {s r : Text} {v : Value} → Fills b s r v → (c : Slot) (q : Text) (i : Identifier) (d a : Text) (l : Option Nodes) (fs : List Frame) (from : Text)
      → Runs whole out (given whole c (typed q i d a s) v None l fs from s r) r → Runs whole out (at (type_done b c q i d a) l fs from) s
  read_done out (by_string {b = OfName} d') c q i d a l fs from x = read_string out d' refl x
  read_done out (by_string {b = OfValue} d') c q i d a l fs from x = read_string out d' refl x
  read_done out (by_plain p e) c q i d a l fs from x = reads (t_value p) refl x

  spelled_at : {s r v : Text} → IsString true s r v → LaidIdentifier true whole (identifier_at whole v s r) s r
  spelled_at d = spelled (place d (end_string d)) refl

  -- what is kept of a type
  same_type : (c : Slot) (s1 s2 s3 s4 p t : Text) (i : Identifier) (v : Value) (l : Option Nodes) (fs : List Frame) (from r : Text)
      → given whole c (typed (between s1 s2) i (between s3 p) s4 t) v None l fs from t r ≡ given whole c (typed (kept_text c (between (kept_text c s1) s2)) (kept_name c i) (kept_text c (between (kept_text c s3) p)) (kept_text c s4) t) v None l fs from t r
  same_type no_name s1 s2 s3 s4 p t i v l fs from r = refl
  same_type (for_name q s) s1 s2 s3 s4 p t i v l fs from r = refl
  same_type (no_value u) s1 s2 s3 s4 p t i v l fs from r = refl
  same_type (for_value u q s k) s1 s2 s3 s4 p t i v l fs from r = refl

  record ReadFilled (b : Owner) (s t r : Text) (y : Option Text) (v : Value) : Type 0 where
    type : Option TypeParts
    laid : LaidType true whole (type_of type) (before_name type) (after_name type) (after_type type) s t
    same : option_map (λ (i : Identifier). i.value) (type_of type) ≡ y
    runs : (out : Document) → (st : State) (c : Slot) (l : Option Nodes) (fs : List Frame) (from : Text) → Takes b st s c l fs from
        → ((o : Option Pending) → Runs whole out (given whole c type v o l fs from t r) r) → Runs whole out st s

  read_filled : {b : Owner} {s t r : Text} {y : Option Text} {v : Value} → MaybeType true s t y → Fills b t r v → ReadFilled b s t r y v
  read_filled untyped d = record { type = None; laid = no_type; same = refl; runs = λ out st c l fs from k a. read_fill out d st c l fs from k a }
  read_filled {b = b} {t = t} {r = r} {v = v} (a_typed {v = y} (parens {s = s1} {t = s2} {u = s3} {r = s4} ss u us) vs) d =
      let i = identifier_at whole y s2 s3 in
      record {
        type = typed (between s1 s2) i (between s3 (41 ∷ s4)) s4 t;
        laid = a_type (place ss (end_spaces ss)) (spelled_at u) (place us (end_spaces us)) (place vs (end_spaces vs));
        same = refl;
        runs = λ out st c l fs from k a.
            let before = kept_text c (between (kept_text c s1) s2) in
            let after = kept_text c (between (kept_text c s3) (41 ∷ s4)) in
            reads t_left (k.to_left s1) (stay out (at (opened b c s1) l fs from) (λ s r. refl) ss (read_string out u refl
            (stay out (at (type_name b c before (kept_name c i) (kept_text c s3)) l fs from) (λ s r. refl) us (reads t_right refl
            (stay out (at (type_done b c before (kept_name c i) after (kept_text c s4)) l fs from) (λ s r. refl) vs (read_done out d c before (kept_name c i) after (kept_text c s4) l fs from
            (subst (λ (st : State). Runs whole out st r) (same_type c s1 s2 s3 s4 (41 ∷ s4) t i v l fs from r) (a None))))))));
      }

  -- what is kept of a key
  same_key : (c : Slot) (i : Identifier) (t u p w : Text) → keyed c (record { name = i; before = between t p; following = between u w }) ≡ keyed c (record { name = kept_name c i; before = kept_text c (between (kept_text c t) p); following = between (kept_text c u) w })
  same_key no_name i t u p w = refl
  same_key (for_name q s) i t u p w = refl
  same_key (no_value h) i t u p w = refl
  same_key (for_value h q s k) i t u p w = refl

  record ReadItem (s r : Text) (e : entry_data'.Entry) : Type 0 where
    key : Option KeyParts
    type : Option TypeParts
    val : Value
    here : Text
    laid : (leading : Text) (span : SourceSpan) → LaidItem true whole leading [] span (entry_at span leading key type val (between here r)) s r
    same : record { key = option_map (λ (i : Identifier). i.value) (key_identifier key); ty = option_map (λ (i : Identifier). i.value) (type_of type); value = val } ≡ e
    runs : (out : Document) → (st : State) (c : Slot) (l : Option Nodes) (fs : List Frame) (from : Text) → ((v r : Text) → step whole st (string v) s r ≡ Some (worded whole c v l fs from s r))
        → ((v : Value) (r : Text) → step whole st (value v) s r ≡ Some (given whole c None v None l fs from s r)) → ((r : Text) → step whole st left s r ≡ Some (at (opened OfValue c r) l fs from))
        → ((o : Option Pending) → Runs whole out (given whole (slot_of c key) type val o l fs from here r) r) → Runs whole out st s

  read_equals : (out : Document) → {s u : Text} {h : Option Under} {c : Slot} {k : Identifier} {a : Text} {l : Option Nodes} {fs : List Frame} {from : Text} → Star NodeSpace s (61 ∷ u) → Runs whole out (at (property c k (kept_text c (between a (61 ∷ u))) (kept_text c u)) l fs from) u → Runs whole out (at (in_node h (fresh (Some (pending c k a)))) l fs from) s
  read_equals out no_star b = reads t_equals refl b
  read_equals out {h = h} {c = c} {k = k} {a = a} {l = l} {fs = fs} {from = from} (more n m) b = reads (t_space n) refl (stay out (at (in_node h (spaced (Some (pending c k a)))) l fs from) (λ s r. refl) m (reads t_equals refl b))

  read_item : {s r : Text} {e : entry_data'.Entry} → IsEntry true s r e → ReadItem s r e
  read_item {s = s} {r = r} (argument {v = v} (a_value {t = t} y d)) =
      let X = read_filled y (value_fills d) in
      record {
        key = None;
        type = X.type;
        val = v;
        here = t;
        laid = λ leading span. item no_key X.laid (place d (end_plain d));
        same = ap (λ (z : Option Text). record { key = None; ty = z; value = v }) X.same;
        runs = λ out st c l fs from to_string to_value to_left a. X.runs out st c l fs from (record { to_string = λ v r. (Some (pending c (kept_name c (identifier_at whole v s r)) (kept_text c r)), to_string v r); to_value = λ e. to_value; to_left = to_left }) a;
      }
  read_item {s = s} {r = r} (a_property {t = t} {u = u} {w = w} {k = k} {v = v} d ss us (a_value {t = p} y z)) =
      let X = read_filled y (value_fills z) in
      let i = identifier_at whole k s t in
      let k' : KeyParts = record { name = i; before = between t (61 ∷ u); following = between u w } in
      record {
        key = Some k';
        type = X.type;
        val = v;
        here = p;
        laid = λ leading span. item (a_key (spelled_at d) (place ss (end_spaces ss)) (place us (end_spaces us))) X.laid (place z (end_plain z));
        same = ap (λ (z : Option Text). record { key = Some k; ty = z; value = v }) X.same;
        runs = λ out st c l fs from to_string to_value to_left a.
            let f = moved c from t in
            let before = kept_text c (between (kept_text c t) (61 ∷ u)) in
            let k'' : KeyParts = record { name = kept_name c i; before = before; following = between (kept_text c u) w } in
            let st' = at (property c (kept_name c i) before (kept_text c u)) l fs f in
            read_string out d (to_string k t) (read_equals out ss (stay out st' (λ s r. refl) us
            (X.runs out st' (keyed c k'') l fs f (record { to_string = λ v r. (None, refl); to_value = λ e v r. refl; to_left = λ r. refl })
            (λ o. subst (λ (c' : Slot). Runs whole out (given whole c' X.type v o l fs f p r) r) (same_key c i t u (61 ∷ u) w)
            (subst (λ (z : Text). Runs whole out (at (in_node (filled whole (keyed c k') X.type v p r) (fresh o)) l fs z) r) (moved_twice c k' from t r) (a o))))));
      }

  read_slashdash : (out : Document) → {s t u : Text} (h : Option Under) (o : Option Pending) (l : Option Nodes) (fs : List Frame) (from : Text) → Star NodeSpace s t → Slashdash t u → Runs whole out (at (entry_slashdash h) l fs from) u → Runs whole out (at (in_node h (fresh o)) l fs from) s
  read_slashdash out h o l fs from no_star (slashdash ls) a = reads t_slashdash refl (lines out (at (entry_slashdash h) l fs from) (λ s r. refl) (λ s r. refl) ls a)
  read_slashdash out h o l fs from (more n m) (slashdash ls) a = reads (t_space n) refl (stay out (at (in_node h (spaced o)) l fs from) (λ s r. refl) m (reads t_slashdash refl (lines out (at (entry_slashdash h) l fs from) (λ s r. refl) (λ s r. refl) ls a)))

  spaces_in : (out : Document) → {s t : Text} (h : Option Under) (l : Option Nodes) (fs : List Frame) (from : Text) → Star NodeSpace s t → (p : Spot) → ((q : Spot) → Runs whole out (at (in_node h q) l fs from) t) → Runs whole out (at (in_node h p) l fs from) s
  spaces_in out h l fs from no_star p f = f p
  spaces_in out h l fs from (more n m) p f = reads (t_space n) refl (spaces_in out h l fs from m (spaced_of p) f)

  open_slashdash : (out : Document) → {s u : Text} (h : Option Under) (l : Option Nodes) (fs : List Frame) (from : Text) → Star LineSpace s (123 ∷ u) → Runs whole out (at gap None (in_dropped h l ∷ fs) from) u → (p : Spot) → Runs whole out (at (in_node h p) l fs from) (47 ∷ 45 ∷ s)
  open_slashdash out h l fs from ls a (fresh o) = reads t_slashdash refl (lines out (at (entry_slashdash h) l fs from) (λ s r. refl) (λ s r. refl) ls (reads t_opening refl a))
  open_slashdash out h l fs from ls a (spaced o) = reads t_slashdash refl (lines out (at (entry_slashdash h) l fs from) (λ s r. refl) (λ s r. refl) ls (reads t_opening refl a))
  open_slashdash out h l fs from ls a later = reads t_slashdash refl (lines out (at (block_slashdash h) l fs from) (λ s r. refl) (λ s r. refl) ls (reads t_opening refl a))

  -- a state in which the node may end here; `to` is the state after the terminator
  record Ending (st : State) (s : Text) (to : Text → Text → State) : Type 0 where
    to_semicolon : (r : Text) → step whole st semicolon s r ≡ Some (to (between s r) r)
    to_newline : (r : Text) → step whole st newline s r ≡ Some (to (between s r) r)
    to_closing : (r : Text) → step whole st closing s r ≡ step whole (to [] s) closing s r
    to_end : s ≡ [] → finish whole st ≡ finish whole (to [] [])

  record ReadEnd (s r : Text) : Type 0 where
    end : Text
    laid : Is Terminator end s r
    runs : (out : Document) → (st : State) (to : Text → Text → State) → Ending st s to → Runs whole out (to end r) r → Runs whole out st s

  at_nothing : (out : Document) → (st : State) (to : Text → Text → State) → Ending st [] to → Runs whole out (to [] []) [] → Runs whole out st []
  at_nothing out st to n (stops e) = stops (n.to_end refl ∙ e)
  at_nothing out st to n (reads t e a) = absurd (no_token t)

  at_brace : (out : Document) → {r : Text} (st : State) (to : Text → Text → State) → Ending st (125 ∷ r) to → Runs whole out (to [] (125 ∷ r)) (125 ∷ r) → Runs whole out st (125 ∷ r)
  at_brace out {r = r} st to n (reads {r = r'} {k = k} t e a) =
      let d = token_det t t_closing in
      reads t (ap (λ (j : Token). step whole st j (125 ∷ r) r') d.1 ∙ n.to_closing r' ∙ sym (ap (λ (j : Token). step whole (to [] (125 ∷ r)) j (125 ∷ r) r') d.1) ∙ e) a

  read_end : {s r : Text} → Terminator s r → ReadEnd s r
  read_end (Terminator.semicolon {r = r}) = record { end = between (59 ∷ r) r; laid = place Terminator.semicolon (end_terminator Terminator.semicolon); runs = λ out st to n a. reads t_semicolon (n.to_semicolon r) a }
  read_end {s = s} {r = r} (Terminator.newline m) = record { end = between s r; laid = place (Terminator.newline m) (end_terminator (Terminator.newline m)); runs = λ out st to n a. reads (t_newline (Break.newline m)) (n.to_newline r) a }
  read_end {s = s} {r = r} (Terminator.comment m) = record { end = between s r; laid = place (Terminator.comment m) (end_terminator (Terminator.comment m)); runs = λ out st to n a. reads (t_newline (Break.comment m)) (n.to_newline r) a }
  read_end Terminator.at_end = record { end = []; laid = record { is = Terminator.at_end; text = refl }; runs = λ out. at_nothing out }
  read_end Terminator.at_close = record { end = []; laid = record { is = Terminator.at_close; text = refl }; runs = λ out. at_brace out }

  content_laid : {xs : Nodes} {s t r : Text} → LaidNodes true whole xs s t → Gap true t r → LaidContent true whole (content_at whole xs (between t r) r) s r
  content_laid no_node g = without_nodes (place g (end_gap g)) refl
  content_laid (a_node l x e z ns) g = with_nodes (a_node l x e z ns) (place g (end_gap g)) refl

  content_data : (xs : Nodes) (p s : Text) → document_data (content_at whole xs p s) ≡ nodes_data xs
  content_data none p s = refl
  content_data (first x xs) p s = refl

  -- p is where the place began that the text s goes on with; the node ends at r, and v is what follows its terminator
  record ReadName (p s r v : Text) (es : List entry_data'.Entry) (k : data'.Children) : Type 0 where
    entries : List Entry
    tail : Tail
    middle : Text
    laid_entries : LaidEntries true whole entries p middle
    laid_tail : LaidChildren true whole tail.k tail.before tail.place middle r
    laid_end : Is Terminator tail.end r v
    same_entries : map entry_data entries ≡ es
    same_tail : children_data tail.k ≡ k
    runs : (out : Document) → (h : Option Under) (l : Option Nodes) (fs : List Frame) (from : Text) → Runs whole out (at gap (ended (made h entries tail r) l) fs (origin h from v)) v → (o : Option Pending) → Runs whole out (at (in_node h (fresh o)) l fs (origin h from p)) s

  record ReadBlocks (p s r v : Text) (k : data'.Children) : Type 0 where
    tail : Tail
    laid_tail : LaidChildren true whole tail.k tail.before tail.place p r
    laid_end : Is Terminator tail.end r v
    same_tail : children_data tail.k ≡ k
    runs : (out : Document) → (h : Option Under) (l : Option Nodes) (fs : List Frame) (from : Text) → Runs whole out (at gap (ended (tailed h tail r) l) fs (origin h from v)) v → (q : Spot) → Runs whole out (at (in_node h q) l fs (origin h from p)) s

  record ReadLater (p s r v : Text) : Type 0 where
    following : Text
    end : Text
    laid_after : Is AfterChildren following p r
    laid_end : Is Terminator end r v
    runs : (out : Document) → (x : Option Kept) (l : Option Nodes) (fs : List Frame) (from : Text) → Runs whole out (at gap (ended (closed_kept whole x following end r) l) fs (origin x from v)) v → Runs whole out (at (kept x) l fs (origin x from p)) s

  record ReadNodes (s r : Text) (xs : data'.Nodes) : Type 0 where
    tree : Nodes
    last : Text
    laid : LaidNodes true whole tree s last
    gap' : Gap true last r
    same : nodes_data tree ≡ xs
    runs : (out : Document) → (l : Option Nodes) (fs : List Frame) (from : Text) → Runs whole out (at gap (extended l tree) fs (origin l from last)) r → Runs whole out (at gap l fs (origin l from s)) s

  plain_runs : (out : Document) → (p : Text) {s v : Text} (E : ReadEnd s v) (h : Option Under) (l : Option Nodes) (fs : List Frame) (from : Text) → Runs whole out (at gap (ended (closed whole h no_children [] (between p s) E.end s) l) fs (origin h from v)) v → (q : Spot) → Runs whole out (at (in_node h q) l fs (origin h from p)) s
  plain_runs out p {s = s} E None l fs from a q = E.runs out (at (in_node None q) l fs from) (λ end v. at gap l fs from) (record { to_semicolon = λ r. refl; to_newline = λ r. refl; to_closing = λ r. refl; to_end = λ e. refl }) a
  plain_runs out p {s = s} E (Some h) l fs from a q = E.runs out (at (in_node (Some h) q) l fs p) (λ end v. at gap (ended (closed whole (Some h) no_children [] (between p s) end s) l) fs v)
      (record { to_semicolon = λ r. refl; to_newline = λ r. refl; to_closing = λ r. refl; to_end = λ e. ap (λ (z : Text). finish whole (at gap (ended (closed whole (Some h) no_children [] (between p z) [] z) l) fs [])) (sym e) }) a

  later_runs : (out : Document) → (p : Text) {s v : Text} (E : ReadEnd s v) (x : Option Kept) (l : Option Nodes) (fs : List Frame) (from : Text) → Runs whole out (at gap (ended (closed_kept whole x (between p s) E.end s) l) fs (origin x from v)) v → Runs whole out (at (kept x) l fs (origin x from p)) s
  later_runs out p {s = s} E None l fs from a = E.runs out (at (kept None) l fs from) (λ end v. at gap l fs from) (record { to_semicolon = λ r. refl; to_newline = λ r. refl; to_closing = λ r. refl; to_end = λ e. refl }) a
  later_runs out p {s = s} E (Some x) l fs from a = E.runs out (at (kept (Some x)) l fs p) (λ end v. at gap (ended (closed_kept whole (Some x) (between p s) end s) l) fs v)
      (record { to_semicolon = λ r. refl; to_newline = λ r. refl; to_closing = λ r. refl; to_end = λ e. ap (λ (z : Text). finish whole (at gap (ended (closed_kept whole (Some x) (between p z) [] z) l) fs [])) (sym e) }) a

  block_runs : (out : Document) → (p : Text) {s r u v : Text} {xs : data'.Nodes} (N : ReadNodes s (125 ∷ r) xs) (L : ReadLater r r u v) (h : Option Under) (l : Option Nodes) (fs : List Frame) (from : Text)
      → Runs whole out (at gap (ended (closed whole h (children (content_at whole N.tree (between N.last (125 ∷ r)) (125 ∷ r))) (between p (123 ∷ s)) L.following L.end u) l) fs (origin h from v)) v
      → Runs whole out (at gap (inside h) (in_block h (text_before h (between (origin h from p) (123 ∷ s))) l ∷ fs) (origin h (origin h from p) s)) s
  block_runs out p {s = s} N L None l fs from a = N.runs out None (in_block None [] l ∷ fs) from (reads t_closing refl (L.runs out None l fs from a))
  block_runs out p {s = s} {r = r} N L (Some h) l fs from a =
      N.runs out (Some none) (in_block (Some h) (between p (123 ∷ s)) l ∷ fs) from (reads t_closing refl
      (L.runs out (Some (record { under = h; before = between p (123 ∷ s); block = content_at whole N.tree (between N.last (125 ∷ r)) (125 ∷ r) })) l fs from a))

  abbrev entry_of : {s r : Text} {e : entry_data'.Entry} → Text → ReadItem s r e → Entry
  entry_of {s = s} {r = r} q I = entry_at (span_of whole s r) q I.key I.type I.val (between I.here r)

  entry_runs : (out : Document) → (p : Text) {t u : Text} {e : entry_data'.Entry} (I : ReadItem t u e) (h : Option Under) (l : Option Nodes) (fs : List Frame) (from : Text) (o : Option Pending)
      → ((o : Option Pending) → Runs whole out (at (in_node (add h (entry_of (between p t) I)) (fresh o)) l fs (origin (add h (entry_of (between p t) I)) from u)) u)
      → Runs whole out (at (in_node h (spaced o)) l fs (origin h from p)) t
  entry_runs out p {t = t} {u = u} I h l fs from o a =
      let q = between p t in
      let c = entry_slot h q t in
      I.runs out (at (in_node h (spaced o)) l fs (origin h from p)) c l fs (origin h from p)
      (λ v r. ap (λ (c' : Slot). Some (worded whole c' v l fs (origin h from p) t r)) (sym (slot_between h from p t)))
      (λ v r. ap (λ (c' : Slot). Some (given whole c' None v None l fs (origin h from p) t r)) (sym (slot_between h from p t)))
      (λ r. ap (λ (c' : Slot). Some (at (opened OfValue c' r) l fs (origin h from p))) (sym (slot_between h from p t)))
      (λ o'. subst (λ (st : State). Runs whole out st u) (ap (λ (z : Text). at (in_node (add h (entry_of q I)) (fresh o')) l fs z) (origin_add h (entry_of q I) from u) ∙ after_value h I.key I.type I.val o' l fs q t from p I.here u) (a o'))

  node_runs : (out : Document) → {t m w r v q : Text} {n : Text} {y : Option Text} {es : List entry_data'.Entry} {k : data'.Children} {xs : data'.Nodes} (X : ReadFilled OfName t m w y (text n)) (Y : ReadName w w r v es k) (D : ReadNodes v q xs) (l : Option Nodes) (fs : List Frame) (from s : Text)
      → Runs whole out (at gap (extended l (first (node_at whole (record { leading = between s t; start = t; ty = X.type; name = identifier_at whole n m w; entries = Y.entries }) Y.tail.k Y.tail.before Y.tail.place Y.tail.end r) D.tree)) fs (origin l from D.last)) q
      → Runs whole out (at gap l fs (origin l from s)) t
  node_runs out {t = t} {m = m} {r = r} {v = v} {q = q} X Y D None fs from s a =
      X.runs out (at gap None fs from) no_name None fs from (record { to_string = λ v r. (None, refl); to_value = λ e v r. cc; to_left = λ r. refl })
      (Y.runs out None None fs from (subst (λ (x : Option Node). Runs whole out (at gap (ended x None) fs from) v) (sym (made_none Y.entries Y.tail r)) (D.runs out None fs from a)))
  node_runs out {t = t} {m = m} {w = w} {r = r} {v = v} {q = q} {n = n} X Y D (Some ys) fs from s a =
      let u : Under = record { leading = between s t; start = t; ty = X.type; name = identifier_at whole n m w; entries = [] } in
      let x = node_at whole (record u { entries = Y.entries }) Y.tail.k Y.tail.before Y.tail.place Y.tail.end r in
      X.runs out (at gap (Some ys) fs s) (for_name (between s t) t) (Some ys) fs s (record { to_string = λ v r. (None, refl); to_value = λ e v r. cc; to_left = λ r. refl })
      (Y.runs out (Some u) (Some ys) fs from (subst (λ (x : Option Node). Runs whole out (at gap (ended x (Some ys)) fs v) v) (sym (made_some u Y.entries Y.tail r))
      (D.runs out (Some (join ys (first x none))) fs from (subst (λ (z : Nodes). Runs whole out (at gap (Some z) fs D.last) q) (sym (join_join ys (first x none) D.tree)) a))))

  mutual
    read_gap : (out : Document) → {s r : Text} → Gap true s r → (l : Option Nodes) (fs : List Frame) (from : Text) → Runs whole out (at gap l fs from) r → Runs whole out (at gap l fs from) s
    read_gap out no_gap l fs from a = a
    read_gap out (line_space (LineSpace.space n) g) l fs from a = reads (t_space n) refl (read_gap out g l fs from a)
    read_gap out (line_space (LineSpace.«break» n) g) l fs from a = reads (t_newline n) refl (read_gap out g l fs from a)
    read_gap out (dropped_node {u = w} {v = v} (slashdash {r = t} ls) (named {u = u} y z d) e g) l fs from a =
        let X = read_filled {b = OfName} y (by_string z) in
        let Y = read_name d e u no_star in
        reads t_slashdash refl (lines out (at node_slashdash l fs from) (λ s r. refl) (λ s r. refl) ls
        (X.runs out (at node_slashdash l fs from) no_name l fs from (record { to_string = λ v r. (None, refl); to_value = λ e v r. cc; to_left = λ r. refl })
        (Y.runs out None l fs from (subst (λ (x : Option Node). Runs whole out (at gap (ended x l) fs from) v) (sym (made_none Y.entries Y.tail w)) (read_gap out g l fs from a)))))

    read_name : {s r : Text} {es : List entry_data'.Entry} {k : data'.Children} → AfterName true s r es k → {v : Text} → Terminator r v → (p : Text) → Star DroppedEntry p s → ReadName p s r v es k
    read_name {r = r} (kept_entry {s = s} {t = t} {u = u} (plus n ss) i d) {v = v} e p ds =
        let I = read_item i in
        let X = read_name d e u no_star in
        let class = an_entry_leading ds (plus n ss) in
        let x = entry_of (between p t) I in
        record {
          entries = x ∷ X.entries;
          tail = X.tail;
          middle = X.middle;
          laid_entries = an_entry (laid_entry (place class (then (end_star (λ s r x. end_dropped x) ds) (end_some (plus n ss)))) (I.laid (between p t) (span_of whole t u)) refl) X.laid_entries;
          laid_tail = X.laid_tail;
          laid_end = X.laid_end;
          same_entries = (let a = I.same in let b = X.same_entries in cc);
          same_tail = X.same_tail;
          runs = λ out h l fs from a o. reads (t_space n) refl (stay out (at (in_node h (spaced o)) l fs (origin h from p)) (λ s r. refl) ss
              (entry_runs out p I h l fs from o (X.runs out (add h x) l fs from (subst (λ (z : Text). Runs whole out (at gap (ended (made (add h x) X.entries X.tail r) l) fs z) v) (sym (origin_add h x from v)) a))));
        }
    read_name (dropped_entry {u = u} {v = t} ss m i d) e p ds =
        let I = read_item i in
        let X = read_name d e p (snoc ds (DroppedEntry.dropped ss m i)) in
        record {
          entries = X.entries;
          tail = X.tail;
          middle = X.middle;
          laid_entries = X.laid_entries;
          laid_tail = X.laid_tail;
          laid_end = X.laid_end;
          same_entries = X.same_entries;
          same_tail = X.same_tail;
          runs = λ out h l fs from a o. read_slashdash out h o l fs (origin h from p) ss m
              (I.runs out (at (entry_slashdash h) l fs (origin h from p)) (no_value h) l fs (origin h from p) (λ v r. refl) (λ v r. refl) (λ r. refl)
              (λ o'. subst (λ (st : State). Runs whole out st t) (after_dropped h I.key I.type I.val o' l fs (origin h from p) I.here t) (X.runs out h l fs from a o')));
        }
    read_name (AfterName.blocks d) e p ds =
        let X = read_blocks d e p ds no_star in
        record {
          entries = [];
          tail = X.tail;
          middle = p;
          laid_entries = no_entry;
          laid_tail = X.laid_tail;
          laid_end = X.laid_end;
          same_entries = refl;
          same_tail = X.same_tail;
          runs = λ out h l fs from a o. X.runs out h l fs from a (fresh o);
        }

    read_blocks : {b : Bool} {s r : Text} {k : data'.Children} → Blocks true b s r k → {v : Text} → Terminator r v → (p : Text) {m : Text} → Star DroppedEntry p m → Star DroppedBlock m s → ReadBlocks p s r v k
    read_blocks (dropped_block ss (slashdash ls) (braces ns') d) e p ds bs =
        let N = read_nodes ns' in
        let X = read_blocks d e p ds (snoc bs (DroppedBlock.dropped ss (slashdash ls) (braces ns'))) in
        record {
          tail = X.tail;
          laid_tail = X.laid_tail;
          laid_end = X.laid_end;
          same_tail = X.same_tail;
          runs = λ out h l fs from a q. spaces_in out h l fs (origin h from p) ss q (open_slashdash out h l fs (origin h from p) ls
              (N.runs out None (in_dropped h l ∷ fs) (origin h from p) (reads t_closing refl (X.runs out h l fs from a later))));
        }
    read_blocks (block {u = u} ss (braces {s = t} ns') d) e p ds bs =
        let N = read_nodes ns' in
        let L = read_later d e u no_star in
        let inner = content_at whole N.tree (between N.last (125 ∷ u)) (125 ∷ u) in
        record {
          tail = tail_of (children inner) (between p (123 ∷ t)) L.following L.end;
          laid_tail = a_block (place (before_children ds (after_children bs ss)) (then (end_star (λ s r x. end_dropped x) ds) (then (end_star (λ s r x. end_dropped_block x) bs) (end_spaces ss)))) (content_laid N.laid N.gap') L.laid_after;
          laid_end = L.laid_end;
          same_tail = ap data'.children (content_data N.tree (between N.last (125 ∷ u)) (125 ∷ u) ∙ N.same);
          runs = λ out h l fs from a q. spaces_in out h l fs (origin h from p) ss q (λ q'. reads t_opening refl (block_runs out p N L h l fs from a));
        }
    read_blocks (no_block {r = r} ss) e p ds bs =
        let E = read_end e in
        record {
          tail = tail_of no_children [] (between p r) E.end;
          laid_tail = laid_no_block (place (before_children ds (after_children bs ss)) (then (end_star (λ s r x. end_dropped x) ds) (then (end_star (λ s r x. end_dropped_block x) bs) (end_spaces ss))));
          laid_end = E.laid;
          same_tail = refl;
          runs = λ out h l fs from a q. spaces_in out h l fs (origin h from p) ss q (λ q'. plain_runs out p E h l fs from a q');
        }

    read_later : {s r : Text} → AfterBlock true s r → {v : Text} → Terminator r v → (p : Text) → Star DroppedBlock p s → ReadLater p s r v
    read_later (dropped_later ss (slashdash ls) (braces ns') d) e p bs =
        let N = read_nodes ns' in
        let X = read_later d e p (snoc bs (DroppedBlock.dropped ss (slashdash ls) (braces ns'))) in
        record {
          following = X.following;
          end = X.end;
          laid_after = X.laid_after;
          laid_end = X.laid_end;
          runs = λ out x l fs from a. stay out (at (kept x) l fs (origin x from p)) (λ s r. refl) ss (reads t_slashdash refl (lines out (at (kept_slashdash x) l fs (origin x from p)) (λ s r. refl) (λ s r. refl) ls (reads t_opening refl
              (N.runs out None (in_later x l ∷ fs) (origin x from p) (reads t_closing refl (X.runs out x l fs from a))))));
        }
    read_later (no_more {r = r} ss) e p bs =
        let E = read_end e in
        record {
          following = between p r;
          end = E.end;
          laid_after = place (after_children bs ss) (then (end_star (λ s r x. end_dropped_block x) bs) (end_spaces ss));
          laid_end = E.laid;
          runs = λ out x l fs from a. stay out (at (kept x) l fs (origin x from p)) (λ s r. refl) ss (later_runs out p E x l fs from a);
        }

    read_nodes : {s r : Text} {xs : data'.Nodes} → AreNodes true s r xs → ReadNodes s r xs
    read_nodes (last_gap {s = s} {r = r} g) = record {
      tree = none;
      last = s;
      laid = no_node;
      gap' = g;
      same = refl;
      runs = λ out l fs from a. read_gap out g l fs (origin l from s) (subst (λ (l' : Option Nodes). Runs whole out (at gap l' fs (origin l from s)) r) (extended_none l) a);
    }
    read_nodes (node_then {s = s} {t = t} {u = r} g (named {t = m} {u = w} {n = n} y z d) e ds) =
        let X = read_filled {b = OfName} y (by_string z) in
        let Y = read_name d e w no_star in
        let D = read_nodes ds in
        let u : Under = record { leading = between s t; start = t; ty = X.type; name = identifier_at whole n m w; entries = Y.entries } in
        record {
          tree = first (node_at whole u Y.tail.k Y.tail.before Y.tail.place Y.tail.end r) D.tree;
          last = D.last;
          laid = a_node (place g (end_gap g)) (laid_node X.laid (spelled_at z) Y.laid_entries Y.laid_tail) Y.laid_end refl D.laid;
          gap' = D.gap';
          same = (let a = X.same in let b = Y.same_entries in let c = Y.same_tail in let f = D.same in cc);
          runs = λ out l fs from a. read_gap out g l fs (origin l from s) (node_runs out X Y D l fs from s a);
        }

  pub record Placed (s : Text) (xs : data'.Nodes) : Type 0 where
    pub tree : Document
    pub laid : LaidContent true whole tree s []
    pub same : document_data tree ≡ xs
    pub runs : Runs whole tree (initial s) s

  pub placed : {s : Text} {xs : data'.Nodes} → AreNodes true s [] xs → Placed s xs
  placed {s = s} d =
      let N = read_nodes d in
      let tree = content_at whole N.tree (between N.last []) [] in
      record {
        tree = tree;
        laid = content_laid N.laid N.gap';
        same = content_data N.tree (between N.last []) [] ∙ N.same;
        runs = N.runs tree (Some none) [] s (stops refl);
      }

pub record Built (t : Text) (xs : data'.Nodes) : Type 0 where
  pub tree : Document
  pub laid : LaidDocument tree t
  pub same : document_data tree ≡ xs
  pub answers : AnswersDocument t tree

pub bom_data : (d : Document) → document_data (with_bom d) ≡ document_data d
bom_data (document None z ns) = refl
bom_data (document (Some f) z ns) = refl

pub built : {t : Text} {xs : data'.Nodes} → IsDocument t xs → Built t xs
built (IsDocumentIn.no_bom {t = t} d) = let p = placed t d in record { tree = p.tree; laid = LaidDocumentAs.no_bom p.laid; same = p.same; answers = AnswersDocument.no_bom p.runs }
built (IsDocumentIn.after_bom {t = t} d) =
    let p = placed (0xFEFF ∷ t) d in
    record { tree = with_bom p.tree; laid = LaidDocumentAs.after_bom p.laid; same = bom_data p.tree ∙ p.same; answers = AnswersDocument.after_bom p.runs }

-- a node that is the whole text
pub record BuiltNode (t : Text) (x : data'.Node) : Type 0 where
  pub tree : Node
  pub laid : LaidNodeText t tree
  pub same : node_data tree ≡ x

pub built_node : {t : Text} {x : data'.Node} → IsNodeText t x → BuiltNode t x
built_node {t = t} (node_text {u = s} {v = v} {r = r} g (named {t = m} {u = w} {n = n} y z d) e ls) =
    let X = read_filled t {b = OfName} y (by_string z) in
    let Y = read_name t d e w no_star in
    record {
      tree = node (record {
        ty = type_of X.type;
        name = identifier_at t n m w;
        entries = Y.entries;
        format = Some (node_format (between t s) (before_name X.type) (after_name X.type) (after_type X.type) Y.tail.before Y.tail.place Y.tail.end (between r []));
        span = span_of t t [];
      }) Y.tail.k;
      laid = laid_node_text (place g (end_gap g)) (laid_node X.laid (spelled_at t z) Y.laid_entries Y.laid_tail) Y.laid_end (place ls (end_lines ls)) refl;
      same = (let a = X.same in let b = Y.same_entries in let c = Y.same_tail in cc);
    }

-- line-spaces are a gap
pub lines_gap : {wide : Bool} {s r : Text} → Star LineSpace s r → Gap wide s r
lines_gap no_star = no_gap
lines_gap (more n ls) = line_space n (lines_gap ls)

-- the machine returns one document on it, with that node and line-spaces after its terminator
pub record OnlyNode (t : Text) : Type 0 where
  pub tree : Node
  pub span : SourceSpan
  pub trailing : Text
  pub line_spaces : Star LineSpace trailing []
  pub runs : Runs t (document (Some (record { leading = []; trailing = trailing })) span (first tree none)) (initial t) t

pub only_node : {t : Text} {x : data'.Node} → IsNodeText t x → OnlyNode t
only_node {t = t} (node_text {u = s} {v = v} {r = r} g (named {t = m} {u = w} {n = n} y z d) e ls) =
    let X = read_filled t {b = OfName} y (by_string z) in
    let Y = read_name t d e w no_star in
    let G : Gap true r [] = lines_gap ls in
    let D : ReadNodes t r [] data'.none = record {
      tree = none;
      last = r;
      laid = no_node;
      gap' = G;
      same = refl;
      runs = λ out l fs from a. read_gap t out G l fs (origin l from r) (subst (λ (l' : Option Nodes). Runs t out (at gap l' fs (origin l from r)) []) (extended_none l) a);
    } in
    let u : Under = record { leading = between t s; start = s; ty = X.type; name = identifier_at t n m w; entries = Y.entries } in
    let x = node_at t u Y.tail.k Y.tail.before Y.tail.place Y.tail.end v in
    let p = place {R = Star LineSpace} ls (end_lines ls) in
    let following : r ≡ between r [] = p.text ∙ append-nil (between r []) in
    record {
      tree = x;
      span = content_span (span_of t [] []) (first x none);
      trailing = between r [];
      line_spaces = subst (λ (z : Text). Star LineSpace z []) following ls;
      runs = read_gap t (content_at t (first x none) (between r []) []) g (Some none) [] t (node_runs t (content_at t (first x none) (between r []) []) X Y D (Some none) [] t t (stops refl));
    }
