-- The document that the machine returns on a text is the one that is laid in it, and so no other is.
use Rattle.std.proofs.Common.{◌≡◌, Bool, true, false, List, [], ◌∷◌, Option, Some, option_map, refl, sym, ap, subst, ◌∙◌}
use Rattle.kdl_text.specs.Chars.{Text, Star, Plus, plus}
use Rattle.kdl_text.specs.Chars.Star.{none as no_star, more}
use Rattle.kdl_text.specs.Trivia.{NodeSpace, slashdash}
use Rattle.kdl_text.specs.declared.span.SourceSpan.{SourceSpan}
use Rattle.kdl_text.proofs.Looking.Stars.{snoc}
use Rattle.kdl_value.specs.Data.{Value}
use Rattle.kdl_entry.specs.Data as entry_data'
use Rattle.kdl_entry.specs.Entries.{IsString, MaybeType, IsEntry}
use Rattle.kdl_entry.specs.Internal.Parts.{identifier_at}
use Rattle.kdl_entry.specs.Laid.{LaidType, no_type, a_type, no_key, a_key, LaidItem, item, laid_entry}
use Rattle.kdl_entry.specs.Places.{Is, DroppedEntry, EntryLeading, leading as an_entry_leading, span_of, between}
use Rattle.kdl_entry.specs.Tree.{Identifier, Entry}
use Rattle.kdl_entry.proofs.Slicing.Between.{is_between}
use Rattle.kdl_entry.proofs.Laying.LaidIsDerived.{string_of, type_of as maybe_type, item_of}
use Rattle.kdl_entry.proofs.Reading.EntryComplete.OneLaid.{identifier_same, SameType}
use Rattle.kdl_grammar.specs.Data as data'
use Rattle.kdl_grammar.specs.Grammar.{Terminator, named, AfterName, kept_entry, Blocks, AfterBlock, Gap, AreNodes, node_then, braces}
use Rattle.kdl_grammar.specs.Laid.{node_format, content_span, LaidEntries, no_entry, an_entry, laid_node, LaidChildren, no_block as laid_no_block, a_block, LaidNodes, no_node, a_node, LaidContent, without_nodes, with_nodes, LaidDocument, LaidDocumentAs, LaidNodeText, laid_node_text}
use Rattle.kdl_grammar.specs.Laws.{OneLaidDocument, OneLaidNode}
use Rattle.kdl_grammar.specs.Internal.Machine.{node_at, content_at, initial, Runs, AnswersDocument}
use Rattle.kdl_grammar.specs.Places.{DroppedBlock, AfterChildren, after as after_children, BeforeChildren, before as before_children}
use Rattle.kdl_grammar.specs.Print.{format_of, trailing_text}
use Rattle.kdl_grammar.specs.Tree.{NodeFormat, Node, node, Children, no_children, children, Document, document, Nodes, none, first}
use Rattle.kdl_grammar.proofs.Reading.Complete.{Tail, tail_of, Fills, value_fills, by_string, read_filled, read_item, entry_of, read_end, read_name, read_blocks, read_later, read_nodes, placed, lines_gap}
use Rattle.kdl_grammar.proofs.Laying.LaidIsDerived.{dropped_first, no_block_of, block_of, later_of, plain_of, braced_of, first_entry, name_of, children_of, nodes_of, content_of}
use Rattle.kdl_grammar.proofs.Reading.Erased.{answers_det}
use Rattle.kdl_syntax.specs.declared.control.{Owner.Owner, Owner.TheVariants.Name as OfName}

module _ (whole : Text) where
  -- the type that the machine keeps is the one that is laid
  type_same : {kind : Owner} {b a h s t r : Text} {ty : Option Identifier} {v : Value} (y : LaidType true whole ty b a h s t) (d : Fills kind t r v)
      → SameType (read_filled whole {b = kind} (maybe_type true whole y) d).type ty b a h
  unfolding read_filled maybe_type
  type_same no_type d = record { name = refl; before = refl; after = refl; following = refl }
  type_same {b = b} {a = a} {h = h} {t = r} (a_type {s = s} {t = t} {u = u} {v = v} ss n us vs) d = record {
    name = ap Some (identifier_same whole n);
    before = sym (is_between s t b ss.text);
    after = sym (is_between u (41 ∷ v) a us.text);
    following = sym (is_between v r h vs.text);
  }

  -- the entry that the machine makes is the one that is laid
  entry_same : {leading s r : Text} {at : SourceSpan} {e : Entry} (i : LaidItem true whole leading [] at e s r) → at ≡ span_of whole s r → entry_of whole leading (read_item whole (item_of true whole i)) ≡ e
  unfolding read_item item_of
  entry_same {r = r} (item {repr = repr} {u = u} no_key y v) x = let T = type_same y (value_fills v.is) in let a = T.name in let b = T.before in let c = T.after in let f = T.following in let g : repr ≡ between u r = is_between u r repr v.text in cc
  entry_same {r = r} (item {after_key = after_key} {after_eq = after_eq} {repr = repr} {t = t} {u = u} (a_key {t = p} {u = q} k ss us) y v) x =
      let T = type_same y (value_fills v.is) in let a = T.name in let b = T.before in let c = T.after in let f = T.following in let g : repr ≡ between u r = is_between u r repr v.text in
      let h = identifier_same whole k in
      let j : after_key ≡ between p (61 ∷ q) = is_between p (61 ∷ q) after_key ss.text in
      let l : after_eq ≡ between q t = is_between q t after_eq us.text in
      cc

  -- a terminator is laid in one way
  end_same : {end s r : Text} (e : Is Terminator end s r) → (read_end whole e.is).end ≡ end
  end_same {end = end} {s = s} {r = r} e = let E = read_end whole e.is in is_between s r E.end E.laid.text ∙ sym (is_between s r end e.text)

  -- after dropped entries and spaces is the next entry, and what is after that one stays
  kept_same : {s t u w r v p : Text} {x : entry_data'.Entry} {es : List entry_data'.Entry} {k : data'.Children} (ds : Star DroppedEntry s t) (n : Plus NodeSpace t u) (i : IsEntry true u w x) (d : AfterName true w r es k) (e : Terminator r v) (before : Star DroppedEntry p s)
      → ((read_name whole (dropped_first ds (kept_entry n i d)) e p before).entries ≡ entry_of whole (between p u) (read_item whole i) ∷ (read_name whole d e w no_star).entries)
      × ((read_name whole (dropped_first ds (kept_entry n i d)) e p before).tail ≡ (read_name whole d e w no_star).tail)
  unfolding read_name dropped_first
  kept_same no_star (plus n ss) i d e before = (refl, refl)
  kept_same (more (DroppedEntry.dropped ss m x) ds) n i d e before = kept_same ds n i d e (snoc before (DroppedEntry.dropped ss m x))

  -- the first entry, after what is before it
  first_same : {p u w r v : Text} {x : entry_data'.Entry} {es : List entry_data'.Entry} {k : data'.Children} (l : EntryLeading p u) (i : IsEntry true u w x) (d : AfterName true w r es k) (e : Terminator r v)
      → ((read_name whole (first_entry l i d) e p no_star).entries ≡ entry_of whole (between p u) (read_item whole i) ∷ (read_name whole d e w no_star).entries)
      × ((read_name whole (first_entry l i d) e p no_star).tail ≡ (read_name whole d e w no_star).tail)
  unfolding first_entry
  first_same (an_entry_leading ds n) i d e = kept_same ds n i d e no_star

  -- the entries that the machine makes are those that are laid
  entries_same : {s t r v : Text} {es : List Entry} {k : data'.Children} (l : LaidEntries true whole es s t) (d : AfterName true t r [] k) (e : Terminator r v) → (read_name whole d e t no_star).entries ≡ []
      → ((read_name whole (name_of true whole l d) e s no_star).entries ≡ es) × ((read_name whole (name_of true whole l d) e s no_star).tail ≡ (read_name whole d e t no_star).tail)
  unfolding name_of
  entries_same no_entry d e f = (f, refl)
  entries_same (an_entry {s = s} {t = m} {es = es} (laid_entry {leading = q} {t = t} {e = x} l i z) ls) d e f =
      let I = read_item whole (item_of true whole i) in
      let a = first_same l.is (item_of true whole i) (name_of true whole ls d) e in
      let b = entries_same ls d e f in
      let later = (read_name whole (name_of true whole ls d) e m no_star).entries in (
        a.0
            ∙ ap (λ (z : Text). entry_of whole z I ∷ later) (sym (is_between s t q l.text))
            ∙ ap (λ (z : Entry). z ∷ later) (entry_same i z)
            ∙ ap (λ (z : List Entry). x ∷ z) b.0,
        a.1 ∙ b.1,
      )

  -- after dropped entries alone no entry is made, and the blocks are what follows
  blocks_same : {s t r v p : Text} {k : data'.Children} (ds : Star DroppedEntry s t) (d : Blocks true false t r k) (e : Terminator r v) (before : Star DroppedEntry p s) (tail : Tail) → ((before : Star DroppedEntry p t) → (read_blocks whole d e p before no_star).tail ≡ tail)
      → ((read_name whole (dropped_first ds (AfterName.blocks d)) e p before).entries ≡ []) × ((read_name whole (dropped_first ds (AfterName.blocks d)) e p before).tail ≡ tail)
  unfolding read_name dropped_first
  blocks_same no_star d e before tail f = (refl, f before)
  blocks_same (more (DroppedEntry.dropped ss m x) ds) d e before tail f = blocks_same ds d e (snoc before (DroppedEntry.dropped ss m x)) tail f

  -- after dropped blocks alone there is no block
  no_block_same : (b : Bool) {s t r v p m : Text} (bs : Star DroppedBlock s t) (ss : Star NodeSpace t r) (e : Terminator r v) (ds : Star DroppedEntry p m) (before : Star DroppedBlock m s)
      → (read_blocks whole (no_block_of {b = b} bs ss) e p ds before).tail ≡ tail_of no_children [] (between p r) (read_end whole e).end
  unfolding read_blocks no_block_of
  no_block_same b no_star ss e ds before = refl
  no_block_same b (more (DroppedBlock.dropped us (slashdash ls) (braces ns)) bs) ss e ds before = no_block_same true bs ss e ds (snoc before (DroppedBlock.dropped us (slashdash ls) (braces ns)))

  -- what the machine makes of nodes and the gap after them
  abbrev content_read : {s r : Text} {xs : data'.Nodes} → AreNodes true s r xs → Document
  content_read {r = r} ns = content_at whole (read_nodes whole ns).tree (between (read_nodes whole ns).last r) r

  -- after dropped blocks is the node's own
  block_same : (b : Bool) {s t u w r v p m : Text} {xs : data'.Nodes} (bs : Star DroppedBlock s t) (ss : Star NodeSpace t (123 ∷ u)) (ns : AreNodes true u (125 ∷ w) xs) (d : AfterBlock true w r) (e : Terminator r v) (ds : Star DroppedEntry p m) (before : Star DroppedBlock m s)
      → (read_blocks whole (block_of {b = b} bs ss (braces ns) d) e p ds before).tail ≡ tail_of (children (content_read ns)) (between p (123 ∷ u)) (read_later whole d e w no_star).following (read_later whole d e w no_star).end
  unfolding read_blocks block_of
  block_same b no_star ss ns d e ds before = refl
  block_same b (more (DroppedBlock.dropped us (slashdash ls) (braces ns')) bs) ss ns d e ds before = block_same true bs ss ns d e ds (snoc before (DroppedBlock.dropped us (slashdash ls) (braces ns')))

  -- dropped blocks after the node's own are one place
  dropped_later_same : {s t r v p : Text} (bs : Star DroppedBlock s t) (ss : Star NodeSpace t r) (e : Terminator r v) (before : Star DroppedBlock p s)
      → ((read_later whole (later_of (after_children bs ss)) e p before).following ≡ between p r) × ((read_later whole (later_of (after_children bs ss)) e p before).end ≡ (read_end whole e).end)
  unfolding read_later later_of
  dropped_later_same no_star ss e before = (refl, refl)
  dropped_later_same (more (DroppedBlock.dropped us (slashdash ls) (braces ns)) bs) ss e before = dropped_later_same bs ss e (snoc before (DroppedBlock.dropped us (slashdash ls) (braces ns)))

  -- what comes after the node's block is one place
  later_same : {r v p : Text} (l : AfterChildren p r) (e : Terminator r v)
      → ((read_later whole (later_of l) e p no_star).following ≡ between p r) × ((read_later whole (later_of l) e p no_star).end ≡ (read_end whole e).end)
  later_same (after_children bs ss) e = dropped_later_same bs ss e no_star

  -- where there is no block, what comes after the name or the last entry is one place
  plain_same : {p r v : Text} (b : BeforeChildren p r) (e : Terminator r v)
      → ((read_name whole (plain_of b) e p no_star).entries ≡ []) × ((read_name whole (plain_of b) e p no_star).tail ≡ tail_of no_children [] (between p r) (read_end whole e).end)
  unfolding plain_of
  plain_same {p = p} {r = r} (before_children ds (after_children bs ss)) e = blocks_same ds (no_block_of bs ss) e no_star (tail_of no_children [] (between p r) (read_end whole e).end) (λ before. no_block_same false bs ss e before no_star)

  -- where there is a block, the places before and after it are two
  braced_same : {p u w r v : Text} {xs : data'.Nodes} (b : BeforeChildren p (123 ∷ u)) (ns : AreNodes true u (125 ∷ w) xs) (l : AfterBlock true w r) (e : Terminator r v)
      → ((read_name whole (braced_of b (braces ns) l) e p no_star).entries ≡ [])
      × ((read_name whole (braced_of b (braces ns) l) e p no_star).tail ≡ tail_of (children (content_read ns)) (between p (123 ∷ u)) (read_later whole l e w no_star).following (read_later whole l e w no_star).end)
  unfolding braced_of
  braced_same {p = p} {u = u} {w = w} (before_children ds (after_children bs ss)) ns l e =
      blocks_same ds (block_of bs ss (braces ns) l) e no_star (tail_of (children (content_read ns)) (between p (123 ∷ u)) (read_later whole l e w no_star).following (read_later whole l e w no_star).end) (λ before. block_same false bs ss ns l e before no_star)

  -- the first node is made of its parts, and those after it stay
  node_then_same : {s t m w r v q : Text} {n : Text} {y : Option Text} {es : List entry_data'.Entry} {k : data'.Children} {xs : data'.Nodes} (g : Gap true s t) (y' : MaybeType true t m y) (z : IsString true m w n) (d : AfterName true w r es k) (e : Terminator r v) (ds : AreNodes true v q xs)
      → ((read_nodes whole (node_then g (named y' z d) e ds)).tree
      ≡ first (node_at whole (record { leading = between s t; start = t; ty = (read_filled whole {b = OfName} y' (by_string z)).type; name = identifier_at whole n m w; entries = (read_name whole d e w no_star).entries }) (read_name whole d e w no_star).tail.k (read_name whole d e w no_star).tail.before (read_name whole d e w no_star).tail.place (read_name whole d e w no_star).tail.end r) (read_nodes whole ds).tree)
      × ((read_nodes whole (node_then g (named y' z d) e ds)).last ≡ (read_nodes whole ds).last)
  unfolding read_nodes
  node_then_same g y' z d e ds = (refl, refl)

  -- a gap alone is no node
  no_nodes_same : {s r : Text} (g : Gap true s r) → ((read_nodes whole (AreNodes.last_gap g)).tree ≡ none) × ((read_nodes whole (AreNodes.last_gap g)).last ≡ s)
  unfolding read_nodes
  no_nodes_same g = (refl, refl)

  mutual
    unfolding content_of

    -- what comes after the name or the last entry is as it is laid
    tail_same : {before place end p r v : Text} {k : Children} (c : LaidChildren true whole k before place p r) (e : Is Terminator end r v)
        → ((read_name whole (children_of true whole c) e.is p no_star).entries ≡ []) × ((read_name whole (children_of true whole c) e.is p no_star).tail ≡ tail_of k before place end)
    tail_same {place = place} {end = end} {p = p} {r = r} (laid_no_block b) e =
        let a = plain_same b.is e.is in
        let c : place ≡ between p r = is_between p r place b.text in
        let d = end_same e in
        (a.0, a.1 ∙ cc)
    tail_same {before = before} {place = place} {end = end} {p = p} {r = r} (a_block {t = t} {u = u} b d l) e =
        let a = braced_same b.is (content_of true whole d) (later_of l.is) e.is in
        let x = content_same d in
        let c : before ≡ between p (123 ∷ t) = is_between p (123 ∷ t) before b.text in
        let f : place ≡ between u r = is_between u r place l.text in
        let g = later_same l.is e.is in
        let h = g.0 in
        let i = g.1 in
        let j = end_same e in
        (a.0, a.1 ∙ cc)

    -- so are the nodes of a block or a document, with the places around them
    content_same : {s r : Text} {d : Document} (c : LaidContent true whole d s r) → content_read (content_of true whole c) ≡ d
    content_same {s = s} {r = r} (without_nodes {leading = leading} {at = at} g z) =
        let a = no_nodes_same g.is in
        let b : leading ≡ between s r = is_between s r leading g.text in
        let c : at ≡ span_of whole r r = z in
        ap (λ (y : Nodes). content_at whole y (between (read_nodes whole (AreNodes.last_gap g.is)).last r) r) a.0 ∙ ap (λ (y : Text). content_at whole none (between y r) r) a.1 ∙ cc
    content_same {r = r} (with_nodes {trailing = trailing} {t = t} {at = at} {x = x} {xs = xs} ns g z) =
        let a = nodes_same ns g.is in
        let b : trailing ≡ between t r = is_between t r trailing g.text in
        let c : at ≡ content_span (span_of whole r r) (first x xs) = z in
        ap (λ (y : Nodes). content_at whole y (between (read_nodes whole (nodes_of true whole ns g.is)).last r) r) a.0 ∙ ap (λ (y : Text). content_at whole (first x xs) (between y r) r) a.1 ∙ cc

    -- so is each node
    nodes_same : {s t r : Text} {xs : Nodes} (ns : LaidNodes true whole xs s t) (g : Gap true t r) → ((read_nodes whole (nodes_of true whole ns g)).tree ≡ xs) × ((read_nodes whole (nodes_of true whole ns g)).last ≡ t)
    nodes_same no_node g = no_nodes_same g
    nodes_same (a_node {leading = leading} {s = s} {t = t} {u = r'} {at = at} l (laid_node {u = w} y n es k) e z ns) g =
        let Y = read_name whole (name_of true whole es (children_of true whole k)) e.is w no_star in
        let a = node_then_same l.is (maybe_type true whole y) (string_of true whole n) (name_of true whole es (children_of true whole k)) e.is (nodes_of true whole ns g) in
        let T = type_same {kind = OfName} y (by_string (string_of true whole n)) in
        let b = T.name in
        let c = T.before in
        let d = T.after in
        let f = T.following in
        let h = identifier_same whole n in
        let i = tail_same k e in
        let j = entries_same es (children_of true whole k) e.is i.0 in
        let m = j.0 in
        let o = j.1 ∙ i.1 in
        let o1 = ap (λ (z : Tail). z.k) o in
        let o2 = ap (λ (z : Tail). z.before) o in
        let o3 = ap (λ (z : Tail). z.place) o in
        let o4 = ap (λ (z : Tail). z.end) o in
        let p : leading ≡ between s t = is_between s t leading l.text in
        let q : at ≡ span_of whole t r' = z in
        let later = nodes_same ns g in
        let x = later.0 in
        (a.0 ∙ cc, a.1 ∙ later.1)

  -- the document that the machine returns is the one that is laid
  placed_same : {s : Text} {d : Document} (c : LaidContent true whole d s []) → (placed whole (content_of true whole c)).tree ≡ d
  unfolding placed
  placed_same c = content_same c

  -- from its beginning to its end the machine reads what is laid
  runs_laid : {s : Text} {d : Document} → LaidContent true whole d s [] → Runs whole d (initial s) s
  runs_laid {s = s} c = subst (λ (z : Document). Runs whole z (initial s) s) (placed_same c) (placed whole (content_of true whole c)).runs

-- what is laid in a text, the machine returns
pub document_answered : {t : Text} {d : Document} → LaidDocument d t → AnswersDocument t d
document_answered (LaidDocumentAs.no_bom {t = t} c) = AnswersDocument.no_bom (runs_laid t c)
document_answered (LaidDocumentAs.after_bom {t = t} c) = AnswersDocument.after_bom (runs_laid (0xFEFF ∷ t) c)

-- at most one document is laid
pub one_laid_document : OneLaidDocument
one_laid_document t d e k l = answers_det (document_answered k) (document_answered l)

-- the node with that text after it, and that span
abbrev following : Text → SourceSpan → Node → Node
following trailing at (node h k) = node (record h { format = option_map (λ (f : NodeFormat). record f { trailing = trailing }) h.format; span = at }) k

-- a node that is the whole text is the only one of a document, but for the line-spaces after it and for its span
record AsDocument (t : Text) (x : Node) : Type 0 where
  inner : Node
  span : SourceSpan
  trailing : Text
  laid : LaidDocument (document (Some (record { leading = []; trailing = trailing })) span (first inner none)) t
  same : x ≡ following trailing (span_of t t []) inner

-- the document of that node
as_document : {t : Text} {x : Node} → LaidNodeText t x → AsDocument t x
as_document {t = t} (laid_node_text {leading = leading} {end = end} {trailing = trailing} {t = s} {u = u} {at = at} g (laid_node {before = before} {after = after} {following = following'} {before_children = before_block} {before_terminator = place} {ty = ty} {name = name} {es = es} {k = k} y n ls c) e w z) =
    let inner : Node = node (record { ty = ty; name = name; entries = es; format = Some (node_format leading before after following' before_block place end []); span = span_of t s u }) k in
    let z' : at ≡ span_of t t [] = z in
    record {
      inner = inner;
      span = content_span (span_of t [] []) (first inner none);
      trailing = trailing;
      laid = LaidDocumentAs.no_bom (with_nodes (a_node g (laid_node y n ls c) e refl no_node) (record { is = lines_gap w.is; text = w.text }) refl);
      same = cc;
    }

-- at most one node is laid
pub one_laid_node : OneLaidNode
one_laid_node t x y k l =
    let a = as_document k in
    let b = as_document l in
    let e = one_laid_document t _ _ a.laid b.laid in
    let i : a.inner ≡ b.inner = cc in
    let w : a.trailing ≡ b.trailing = ap (λ (z : Document). trailing_text (format_of z)) e in
    a.same ∙ ap (λ (z : Node). following a.trailing (span_of t t []) z) i ∙ ap (λ (z : Text). following z (span_of t t []) b.inner) w ∙ sym b.same
