-- Layout loses no comment: what a document holds of them is, each as it is on a line, what is held by the document that is laid in the printed text.
use Rattle.kdl_layout.proofs.Common.{◌≡◌, ℕ, ◌+◌, Bool, true, false, List, [], ◌∷◌, ◌++◌, map, refl, sym, ap, subst, ◌∙◌, Option, Some, append_assoc, append-nil, None, ◌||◌, and_parts, map-append, list_all, ◌&&◌, Text, ValueEnd, LineSpace, SourceSpan, print_identifier, print_type, print_key, Terminator, Gap, no_gap, line_space, print_pieces, print_node, print_tail, print_nodes, print_document, print_piece, NodeFormat, DocumentFormat, Head, Node, node, Children, no_children, children, Document, document, Nodes, none, first, node_data, children_data, nodes_data, document_data, BeforeChildren, Item, before_block, GapItems, PlaceItems, Place, before_entry, on_line, tail, AreNodeSpaces, InPlace, NodeItems, of_node, ChildrenItems, NodesItems, DocumentItems, of_document, EntriesItems, Settings, indentation, or_empty, or_empty_document, NodeKeepsNone, ChildrenKeepNone, NodesKeepNone, DocumentKeepsNone, last_place, without_bom, KeptEnd, WrittenUnless, entry_leading, at_start, past_node, Keeping, keeps_texts, EntriesKeepNone, braces_in_line, braces_on_line, in_one_line, is_on_one_line, nodes_in_line, nodes_on_line, one_lined_children, one_lined_document, one_lined_node, one_lined_nodes, end_on_line, head_on_line, node_in_line, TypeTexts, node_type_texts, with_type_texts, IsSpelling, SpacesTexts, NodeTexts, line_of, block_of, content_of, newline_at_end, has_block, IsWellFormedNode, AreWellFormedChildren, AreWellFormed, only_spaces, no_line_comment, punctuation_end, Identifier, Entry, empty_format, Value, Before, is_space}
use Rattle.kdl_entry.specs.Places.{span_of}
use Rattle.kdl_grammar.specs.Laid.{node_format, content_span, laid_node, LaidChildren, no_block, a_block, LaidNodes, no_node, a_node, LaidContent, without_nodes, with_nodes, LaidDocument, LaidDocumentAs, LaidEntries, no_entry, an_entry}
use Rattle.kdl_grammar.specs.Print.{print_head, end_text}
use Rattle.kdl_grammar.proofs.Reading.Complete.OneLaid.{one_laid_document}
use Rattle.kdl_layout.specs.Comments.{ItemsIn, block, EndItems, KeyItems, TypeItems, InsideItems}
use Rattle.kdl_layout.proofs.Keeping.InnerItems.{AreInside, HoldInside, HoldsInside, entries_hold, head_type_stays, inside_stays, no_type_items, type_nothing}
use Rattle.kdl_layout.proofs.Spacing.Lines.{before_front, lines_front}
use Rattle.kdl_layout.proofs.Keeping.Blocks.{block_fronts, block_texts}
use Rattle.kdl_layout.proofs.Keeping.GapFronts.{Front, nothing, joined, alone, here, newline_if, indented, gap_without_bom}
use Rattle.kdl_layout.proofs.OneLine.Same.{one_or_more}
use Rattle.kdl_layout.proofs.Respelling.Written.{IsWrittenNode, IsWrittenDocument, written_head, IsWrittenHead, Inside, IsGap, IsInside, NameReads, NameReadsIf, IsWrittenEntry, AreWrittenEntries, printed_front}
use Rattle.kdl_layout.proofs.Keeping.KeptPlaces.{tail_ends, tail_spaced, line_end_of, line_terminator, last_text, last_ends, Tail, kept_in, kept_end, kept_last, KeptIn, place_stays}
use Rattle.kdl_layout.proofs.Respelling.Spelled.{SpelledHead, SpelledNode, spelled, SpelledChildren, blockless, spelled_block, SpelledNodes, nodeless, one_more, SpelledDocument}
use Rattle.kdl_layout.proofs.OneLine.Nothing.{head_parts, line_parts, no_comment, spaces_without_bom}
use Rattle.kdl_layout.proofs.Keeping.KeptReads.{spaces_in, spaces_place}
use Rattle.kdl_layout.proofs.OneLine.Reads.{nothing_before, space_before}
use Rattle.kdl_layout.proofs.Respelling.Kept.{no_texts, no_type_spaces, TypeSpaces, no_place_left}
use Rattle.kdl_layout.proofs.Texts.{type_joined, key_joined}
use Rattle.kdl_layout.proofs.Respelling.Spellings.{string_before, value_before}
use Rattle.kdl_layout.proofs.Formatting.EntriesRead.{entry_ends, entry_leads}
use Rattle.kdl_layout.proofs.Rewriting.PlacesAgain.{one_space, space_ends}
use Rattle.kdl_layout.proofs.Listing.ItemsUnique.{gap_in_det, place_in_det}
use Rattle.kdl_layout.proofs.NodeSpaces.{spaces_end}
use Rattle.kdl_layout.proofs.Rewriting.LinesAgain.{spaces_items}
use Rattle.kdl_entry.specs.Laid as laid
use Rattle.kdl_entry.specs.Laid.{LaidIdentifier, LaidType, LaidKey, LaidItem}

module _ (whole : Text) where
  -- an identifier, spelled as it prints
  abbrev pub identifier_at : Identifier → Text → Identifier
  identifier_at i r = record { value = i.value; repr = Some (print_identifier i); span = span_of whole (print_identifier i ++ r) r }

  pub identifier_laid : (i : Identifier) (r : Text) → NameReads i → ValueEnd true r → LaidIdentifier true whole (identifier_at i r) (print_identifier i ++ r) r
  identifier_laid i r ok e = laid.spelled (record { is = string_before (print_identifier i) i.value r ok e; text = refl }) refl

  -- a type between the texts that are kept around it
  pub type_laid : (o : Option Identifier) (x : TypeTexts) (r : Text) → NameReadsIf o → TypeSpaces x → (o ≡ None → x.after ≡ [])
      → (i : Option Identifier) × (y : TypeTexts) × LaidType true whole i y.before_name y.after_name y.after (print_type o x.before_name x.after_name ++ (x.after ++ r)) r
      × ((inner : Bool) (is : List Item) → TypeItems inner o x is → TypeItems inner i y is)
  type_laid None x r ok s n = (None, no_texts, subst (λ (t : Text). LaidType true whole None [] [] [] (t ++ r) r) (sym (n refl)) laid.no_type, λ inner is h. h)
  type_laid (Some i) x r ok s n =
      let rest = x.after_name ++ (41 ∷ (x.after ++ r)) in
      rw (type_joined x.before_name (print_identifier i) x.after_name (x.after ++ r)) (
        Some (identifier_at i rest),
        x,
        laid.a_type (record { is = s.before_name _; text = refl }) (identifier_laid i rest ok (spaces_end x.after_name s.after_name _ (punctuation_end 41 refl))) (record { is = s.after_name _; text = refl }) (record { is = s.after r; text = refl }),
        λ inner is h. h,
      )

  key_laid : (o : Option Identifier) (b a r : Text) → NameReadsIf o → AreNodeSpaces b → AreNodeSpaces a → (i : Option Identifier) × (b' a' : Text) × LaidKey true whole i b' a' (print_key o b a ++ r) r
      × ((inner : Bool) (is : List Item) → KeyItems inner o b a is → KeyItems inner i b' a' is)
  key_laid None b a r ok s t = (None, [], [], laid.no_key, λ inner is h. h)
  key_laid (Some i) b a r ok s t =
      let rest = b ++ (61 ∷ (a ++ r)) in
      rw (key_joined (print_identifier i) b a r)
      (Some (identifier_at i rest), b, a, laid.a_key (identifier_laid i rest ok (spaces_end b s _ (punctuation_end 61 refl))) (record { is = s _; text = refl }) (record { is = t r; text = refl }), λ inner is h. h)

  -- an entry after a text
  abbrev entry_at : Text → SourceSpan → Option Identifier → Option Identifier → Inside → Value → Text → Entry
  entry_at before at key ty x v w = record {
    ty = ty;
    value = v;
    name = key;
    format = Some (record empty_format {
      leading = before;
      value_repr = w;
      after_key = x.after_key;
      after_eq = x.after_eq;
      before_ty_name = x.ty.before_name;
      after_ty_name = x.ty.after_name;
      after_ty = x.ty.after;
    });
    span = at;
  }

  item_laid : (k o : Option Identifier) (x : Inside) (v : Value) (w r before : Text) (at : SourceSpan) → NameReadsIf k → NameReadsIf o → IsInside o x → IsSpelling v w → ValueEnd true r
      → (i j : Option Identifier) × (y : Inside) × LaidItem true whole before [] at (entry_at before at i j y v w) (print_key k x.after_key x.after_eq ++ (print_type o x.ty.before_name x.ty.after_name ++ (x.ty.after ++ (w ++ r)))) r
      × ((inner : Bool) (js ks : List Item) → KeyItems inner k x.after_key x.after_eq js → TypeItems inner o x.ty ks → KeyItems inner i y.after_key y.after_eq js × TypeItems inner j y.ty ks)
  item_laid k o x v w r before at a t s ok e =
      let i = key_laid k x.after_key x.after_eq (print_type o x.ty.before_name x.ty.after_name ++ (x.ty.after ++ (w ++ r))) a s.after_key s.after_eq in
      let j = type_laid o x.ty (w ++ r) t s.ty_spaces s.untyped in
      (i.0, j.0, record { ty = j.1; after_key = i.1; after_eq = i.2 }, laid.item i.3 j.2 (record { is = value_before v w r ok e; text = refl }), λ inner js ks h g. (i.4 inner js h, j.3 inner ks g))

-- entries in a text, and what they hold
pub record EntriesLaid (inner : Bool) (whole s r : Text) (is : List Item) : Type 0 where
  pub entries : List Entry
  pub laid : LaidEntries true whole entries s r
  pub items : EntriesItems inner entries is
  pub ends : ValueEnd true s

module _ (s : Settings) (with : s.no_comments ≡ false) where
  before_kept : (e e' : Entry) (w : IsWrittenEntry s e e') {is : List Item} → ItemsIn (PlaceItems (before_entry false) (entry_leading e.format)) is → KeptIn (before_entry false) w.before (map on_line is)
  before_kept e e' w i = kept_in s.no_comments with (entry_leading e.format) w.before (subst (λ (b : Bool). WrittenUnless (b || s.no_comments) (PlaceItems (before_entry false) (entry_leading e.format)) tail w.before) w.unflagged w.kept) i

  -- a text that continues the line holds the items that it held
  gap_items : (old t gap : Text) → IsGap s old t gap → {is : List Item} → ItemsIn (PlaceItems (before_entry false) old) is → KeptIn (before_entry false) t (map on_line is) → PlaceItems (before_entry false) gap (map on_line is)
  gap_items old t _ IsGap.laid i k = k.spaced
  gap_items old t _ (IsGap.continued c) (ItemsIn.items {is = is} d) k = subst (PlaceItems (before_entry false) old) (sym (place_stays d)) d
  gap_items old t _ (IsGap.continued c) (ItemsIn.no_items n) k = absurd (no_place_left c n)

  -- the comments inside an entry that is printed
  entry_inside : (inner : Bool) (e e' : Entry) (w : IsWrittenEntry s e e') (is : List Item) → (inner ≡ true → HoldsInside s e e') → InsideItems inner e.name e.ty e.format is → AreInside inner e' w.form.inside (map on_line is)
  entry_inside inner e e' w is held i = subst (λ (x : Inside). AreInside inner e' x (map on_line is)) (sym w.form.of_format) (inside_stays s with inner e e' is held i)

  pub entries_laid : (inner : Bool) (whole : Text) (es es' : List Entry) → AreWrittenEntries s es es' → (inner ≡ true → HoldInside s es es') → {is : List Item} → EntriesItems inner es is → (t : Text) → ValueEnd true t
      → EntriesLaid inner whole (print_pieces es' ++ t) t (map on_line is)
  entries_laid inner whole [] [] f held EntriesItems.no_entry t h = record { entries = []; laid = no_entry; items = EntriesItems.no_entry; ends = h }
  entries_laid inner whole (e ∷ es) (e' ∷ es') f held (EntriesItems.an_entry {is = is} {js = js} (is1, is2, i, j, q) k) t h =
      let rest = print_pieces es' ++ t in
      let x = entries_laid inner whole es es' f.1 (λ on. (held on).1) k t h in
      let w = f.0 in
      let text = printed_front [] w.form.inside e' (w.form.word ++ rest) in
      let at = span_of whole text rest in
      let y = item_laid whole e'.name e'.ty w.form.inside e'.value w.form.word rest w.form.gap at w.name w.ty w.form.is_inside w.form.spelled x.ends in
      let (js1, js2, m, n, p) = entry_inside inner e e' w is2 (λ on. (held on).0) j in
      let inside = y.4 inner js1 js2 m n in
      rw (append_assoc (print_piece e') (print_pieces es') t, w.form.prints.text e' refl refl rest, map-append on_line is js)
      (record {
        entries = entry_at whole w.form.gap at y.0 y.1 y.2 e'.value w.form.word ∷ x.entries;
        laid = an_entry (laid.laid_entry (record { is = entry_leads s e e' w text; text = refl }) y.3 refl) x.laid;
        items = EntriesItems.an_entry {e = entry_at whole w.form.gap at y.0 y.1 y.2 e'.value w.form.word} (
          map on_line is1,
          map on_line is2,
          ItemsIn.items (gap_items (entry_leading e.format) w.before w.form.gap w.form.is_gap i (before_kept e e' w i)),
          (js1, js2, inside.0, inside.1, p),
          ap (map on_line) q ∙ map-append on_line is1 is2,
        ) x.items;
        ends = entry_ends s e e' w text;
      })
  entries_laid inner whole [] (e' ∷ es') f held i t h = absurd f
  entries_laid inner whole (e ∷ es) [] f held i t h = absurd f

space_is : only_spaces (32 ∷ []) ≡ true
unfolding is_space
space_is = refl

-- spaces hold no items
gap_nothing : {t : Text} {is : List Item} → ItemsIn (GapItems t) is → only_spaces t ≡ true → is ≡ []
gap_nothing {t} i h = gap_in_det i (ItemsIn.items (spaces_items t h))

place_nothing : (p : Place) {t : Text} {is : List Item} → ItemsIn (PlaceItems p t) is → only_spaces t ≡ true → is ≡ []
place_nothing p {t} i h = place_in_det i (spaces_in p t h)

end_nothing : (last : Bool) (t : Text) {is : List Item} → EndItems t is → end_on_line last t ≡ true → is ≡ []
end_nothing last t (EndItems.line_comment l) h = absurd (no_comment last t h l)
end_nothing last t (EndItems.other f) h = refl

-- the items of a node on one line are those before its entries
line_items : (inner last : Bool) (h : Head) → head_on_line last h ≡ true → {is : List Item} → NodeItems inner (node h no_children) is → EntriesItems inner h.entries is
line_items inner last h e (of_node {a = a} {b = b} {d = d} {e = x} {f = g} ia (ts, es, it, ies, ib) ChildrenItems.no_block id ie ig) =
    let p = line_parts last (or_empty h.format) (head_parts last h e).line in
    let a0 : a ≡ [] = gap_nothing ia p.leading in
    let d0 : d ≡ [] = place_nothing before_block id p.before_terminator in
    let x0 : x ≡ [] = end_nothing last (or_empty h.format).terminator ie p.terminator in
    let g0 : g ≡ [] = gap_nothing ig p.trailing in
    let t0 : ts ≡ [] = type_nothing inner h.ty (node_type_texts (or_empty h.format)) it p.types in
    let same : a ++ b ++ [] ++ d ++ x ++ g ≡ es = rw (a0, d0, x0, g0, ib, t0) (simp append-nil) in
    subst (EntriesItems inner h.entries) (sym same) ies

-- the texts around the nodes of a block on one line hold none either
pub braces_nothing : (o : Option DocumentFormat) {a c : List Item} → braces_on_line o ≡ true → ItemsIn (GapItems (without_bom (or_empty_document o).leading)) a → ItemsIn (GapItems (or_empty_document o).trailing) c → (a ≡ []) × (c ≡ [])
braces_nothing None h i j = absurd cc
braces_nothing (Some f) {a} h i j =
    let e = and_parts (only_spaces f.leading) (only_spaces f.trailing) h in
    (gap_nothing (subst (λ (t : Text). ItemsIn (GapItems t) a) (spaces_without_bom f.leading e.0) i) e.0, gap_nothing j e.1)

-- what a node prints, with a rest after it
node_joined : (l t n p q r : Text) → (l ++ t ++ [] ++ n ++ p ++ q) ++ r ≡ l ++ (t ++ (n ++ (p ++ (q ++ r))))
node_joined l t n p q r = simp (append_assoc, append-nil)

-- a node, put on the line
abbrev pub put : Bool → Head → Node
put last h = node (record h { format = Some (node_in_line last) }) no_children

put_text : (last : Bool) (h : Head) (depth : ℕ) (r : Text) → print_node (put last h) depth ++ r ≡ 32 ∷ (print_type h.ty [] [] ++ (print_identifier h.name ++ (print_pieces h.entries ++ (end_text (Some (node_in_line last)) ++ r))))
put_text last h depth r = node_joined (32 ∷ []) (print_type h.ty [] []) (print_identifier h.name) (print_pieces h.entries) (end_text (Some (node_in_line last))) r

no_others : (l : List Item) → [] ++ l ++ [] ++ [] ++ [] ++ [] ≡ l
no_others l = simp append-nil

-- nodes in a text
pub record LineNodes (inner : Bool) (whole s r : Text) (is : List Item) : Type 0 where
  pub tree : Nodes
  pub laid : LaidNodes true whole tree s r
  pub items : NodesItems inner tree is

module _ (inner : Bool) (number : ℕ) (s : Settings) (with : s.no_comments ≡ false) (whole : Text) where
  module _ (level depth : ℕ) (b : Before) (h h' : Head) (f : IsWrittenHead number s level false b h h') (held : inner ≡ true → HoldInside s h.entries h'.entries) where
    -- a node before others, with the texts before its terminator and of it
    node_put : (before end v : Text) {q : Text} → BeforeChildren (before ++ (end ++ v)) (end ++ v) → Terminator (end ++ v) v → ValueEnd true (before ++ (end ++ v)) → PlaceItems before_block before [] → EndItems end []
        → {is js : List Item} → EntriesItems inner h.entries is → LineNodes inner whole v q js
        → LineNodes inner whole (32 ∷ (print_type h'.ty [] [] ++ (print_identifier h'.name ++ (print_pieces h'.entries ++ (before ++ (end ++ v)))))) q (map on_line is ++ js)
    node_put before end v there ended ends blank bare {is} {js} i x =
        let tail = before ++ (end ++ v) in
        let y = entries_laid s with inner whole h.entries h'.entries f.entries held i tail ends in
        let pieces = print_pieces h'.entries ++ tail in
        let named = identifier_at whole h'.name pieces in
        let ty = type_laid whole h'.ty no_texts (print_identifier h'.name ++ pieces) f.ty no_type_spaces (λ e. refl) in
        let start = print_type h'.ty [] [] ++ (print_identifier h'.name ++ pieces) in
        let head : Head = record { ty = ty.0; name = named; entries = y.entries; format = Some (node_format (32 ∷ []) ty.1.before_name ty.1.after_name ty.1.after [] before end []); span = span_of whole start (end ++ v) } in
        record {
          tree = first (node head no_children) x.tree;
          laid = a_node {leading = 32 ∷ []} {end = end} {t = start} {u = end ++ v} {v = v} (record { is = line_space (LineSpace.space (one_space _)) no_gap; text = refl })
              (laid_node ty.2 (identifier_laid whole h'.name pieces f.name y.ends) y.laid (no_block (record { is = there; text = refl }))) (record { is = ended; text = refl }) refl x.laid;
          items = subst (λ (l : List Item). NodesItems inner (first (node head no_children) x.tree) (l ++ js)) (no_others (map on_line is))
              (NodesItems.a_node (of_node {h = head} (ItemsIn.items (spaces_items (32 ∷ []) space_is)) ([], map on_line is, ty.3 inner [] (no_type_items inner h'.ty), y.items, refl) ChildrenItems.no_block (ItemsIn.items blank) bare (ItemsIn.items GapItems.none)) x.items);
        }

    node_followed : {is js : List Item} → EntriesItems inner h.entries is → (v : Text) {q : Text} → LineNodes inner whole v q js → LineNodes inner whole (print_node (put false h') depth ++ v) q (map on_line is ++ js)
    node_followed i v x =
        rw (put_text false h' depth v)
        (node_put [] (59 ∷ []) v (nothing_before (59 ∷ v)) Terminator.semicolon (punctuation_end 59 refl) (PlaceItems.ends refl) (EndItems.other (no_line_comment refl)) i x)

    -- the last one before the `}`
    node_ended : {is : List Item} → EntriesItems inner h.entries is → (q : Text) → LineNodes inner whole (print_node (put true h') depth ++ (125 ∷ q)) (125 ∷ q) (map on_line is ++ [])
    node_ended i q =
        let v = 125 ∷ q in
        rw (put_text true h' depth v)
        (node_put (32 ∷ []) [] v (space_before v) Terminator.at_close (space_ends v) (spaces_place before_block 32 [] space_is) (EndItems.other (no_line_comment refl)) i
        (record { tree = none; laid = no_node; items = NodesItems.no_node }))

  -- the entries of a node hold what they held
  pub head_holds : (no_keep : s.entry_autoformate_keep ≡ false) (spelling : Keeping) (all : inner ≡ true → keeps_texts spelling ≡ true) {level : ℕ} {has : Bool} {b : Before} {h h' : Head} → SpelledHead number s spelling level has b h h' → EntriesKeepNone h.entries
      → inner ≡ true → HoldInside s h.entries h'.entries
  head_holds no_keep spelling all {h = h} {h' = h'} f o on = entries_hold s with spelling h.entries f.laid.entries h'.entries no_keep (all on) f.spaced.entries f.respelled.entries o

  pub nodes_line : (no_keep : s.entry_autoformate_keep ≡ false) (spelling : Keeping) (all : inner ≡ true → keeps_texts spelling ≡ true) (depth : ℕ) {compact : Bool} {level : ℕ} {b : Before} {ns xs : Nodes} → nodes_on_line ns ≡ true → SpelledNodes compact number s spelling level b ns xs → NodesKeepNone ns → AreWellFormed (nodes_data ns)
      → {is : List Item} → NodesItems inner ns is → (q : Text) → LineNodes inner whole (print_nodes (nodes_in_line xs) depth ++ (125 ∷ q)) (125 ∷ q) (map on_line is)
  nodes_line no_keep spelling all depth h nodeless o w NodesItems.no_node q = record { tree = none; laid = no_node; items = NodesItems.no_node }
  nodes_line no_keep spelling all depth h (one_more (spelled f (spelled_block c at nodes)) p fs) o w i q = absurd cc
  nodes_line no_keep spelling all depth h (one_more {level = level} {b = b} (spelled {h = y} {x = y'} f blockless) p nodeless) o w (NodesItems.a_node {is = is} i NodesItems.no_node) q =
      let e = and_parts (head_on_line true y) true h in
      rw (append_assoc (print_node (put true y') depth) [] (125 ∷ q), map-append on_line is [])
      (node_ended level depth b y y' (written_head s no_keep spelling level false b y y' no_children f o.0.0 w.0) (head_holds no_keep spelling all f o.0.0) (line_items inner true y e.0 i) q)
  nodes_line no_keep spelling all depth h (one_more {level = level} {b = b} (spelled {h = y} {x = y'} f blockless) p (one_more {n = n} {x = node z k'} {ns = ns} {xs = xs} g r fs)) o w (NodesItems.a_node {is = is} i (NodesItems.a_node {is = js} {js = ks} j k)) q =
      let e = and_parts (head_on_line false y) (nodes_on_line (first n ns)) h in
      let ms = nodes_in_line (first (node z k') xs) in
      rw (append_assoc (print_node (put false y') depth) (print_nodes ms depth) (125 ∷ q), map-append on_line is (js ++ ks))
      (node_followed level depth b y y' (written_head s no_keep spelling level false b y y' no_children f o.0.0 w.0) (head_holds no_keep spelling all f o.0.0) (line_items inner false y e.0 i) (print_nodes ms depth ++ (125 ∷ q))
      (nodes_line no_keep spelling all depth e.1 (one_more g r fs) o.1 w.1 (NodesItems.a_node j k) q))

-- texts that are joined
end_joined : (l s c b r : Text) → (l ++ s ++ (c ++ (10 ∷ [])) ++ b) ++ r ≡ (l ++ s) ++ ((c ++ (10 ∷ [])) ++ (b ++ r))
end_joined l s c b r = simp append_assoc

last_joined : (l s c r : Text) → l ++ (s ++ (c ++ (10 ∷ r))) ≡ (l ++ s) ++ ((c ++ (10 ∷ [])) ++ r)
last_joined l s c r = simp append_assoc

braces_joined : (l m c r : Text) → (l ++ (32 ∷ []) ++ (123 ∷ []) ++ m ++ [] ++ c) ++ r ≡ l ++ (32 ∷ 123 ∷ (m ++ (c ++ r)))
braces_joined l m c r = simp (append_assoc, append-nil)

content_joined : (a n b r : Text) → (a ++ n ++ b) ++ r ≡ a ++ (n ++ (b ++ r))
content_joined a n b r = simp append_assoc

typed_joined : (l y a n p q r : Text) → ((l ++ y ++ a ++ n) ++ p ++ q) ++ r ≡ l ++ (y ++ (a ++ (n ++ (p ++ (q ++ r)))))
typed_joined l y a n p q r = simp append_assoc

module _ (h : Head) (before : Text) (k : NodeTexts) (x : TypeTexts) (line : h.format ≡ Some (with_type_texts x (line_of before k))) where
  node_text : (depth : ℕ) (p q r : Text) → (print_head h depth ++ p ++ q) ++ r ≡ (k.before ++ before) ++ (print_type h.ty x.before_name x.after_name ++ (x.after ++ (print_identifier h.name ++ (p ++ (q ++ r)))))
  node_text depth p q r = rw line (typed_joined (k.before ++ before) (print_type h.ty x.before_name x.after_name) x.after (print_identifier h.name) p q r)

  -- what comes after the last entry or the `}`
  abbrev end_of : Text → Text
  end_of r = (k.last ++ k.space) ++ ((k.comment ++ (10 ∷ [])) ++ (k.following ++ r))

  plain_text : (depth : ℕ) (r : Text) → print_tail h no_children depth ++ r ≡ end_of r
  plain_text depth r = rw line (end_joined k.last k.space k.comment k.following r)

  block_text : (f : Option DocumentFormat) (span : SourceSpan) (ms : Nodes) (g : DocumentFormat) (depth : ℕ) (r : Text) → f ≡ Some g
      → print_tail h (children (document f span ms)) depth ++ r ≡ k.before_block ++ (32 ∷ 123 ∷ (g.leading ++ (print_nodes ms (depth + 1) ++ (g.trailing ++ (125 ∷ end_of r)))))
  block_text f span ms g depth r e =
      let end = k.last ++ k.space ++ (k.comment ++ (10 ∷ [])) ++ k.following in
      let n = print_nodes ms (depth + 1) in
      rw (e, line, ← end_joined k.last k.space k.comment k.following r)
      (braces_joined k.before_block (g.leading ++ n ++ g.trailing) (125 ∷ end) r ∙ ap (λ (t : Text). k.before_block ++ (32 ∷ 123 ∷ t)) (content_joined g.leading n g.trailing (125 ∷ (end ++ r))))

  -- a block on one line
  line_text : (span : SourceSpan) (ms : Nodes) (depth : ℕ) (r : Text) → print_tail h (children (document (Some braces_in_line) span ms)) depth ++ r ≡ k.before_block ++ (32 ∷ 123 ∷ (print_nodes ms (depth + 1) ++ (125 ∷ end_of r)))
  line_text span ms depth r =
      let end = k.last ++ k.space ++ (k.comment ++ (10 ∷ [])) ++ k.following in
      let n = print_nodes ms (depth + 1) in
      rw (line, ← end_joined k.last k.space k.comment k.following r)
      (braces_joined k.before_block ([] ++ n ++ []) (125 ∷ end) r ∙ ap (λ (t : Text). k.before_block ++ (32 ∷ 123 ∷ t)) (content_joined [] n [] (125 ∷ (end ++ r))))

-- a node in a text: what is kept after it comes before what follows it
record NodeLaid (inner : Bool) (whole s r : Text) (is : List Item) : Type 0 where
  tree : Node
  pending : Text
  own : List Item
  later : List Item
  laid : {xs : Nodes} {q : Text} → LaidNodes true whole xs (pending ++ r) q → LaidNodes true whole (first tree xs) s q
  items : NodeItems inner tree own
  front : Front pending later
  same : own ++ later ≡ is

-- nodes, likewise
record NodesLaid (inner : Bool) (whole s r : Text) (is : List Item) : Type 0 where
  tree : Nodes
  pending : Text
  own : List Item
  later : List Item
  laid : LaidNodes true whole tree s (pending ++ r)
  items : NodesItems inner tree own
  front : Front pending later
  same : own ++ later ≡ is

-- a document or what is in a block
record ContentLaid (inner : Bool) (whole s r : Text) (is : List Item) : Type 0 where
  tree : Document
  laid : LaidContent true whole tree s r
  items : DocumentItems inner tree is

-- what is between the last entry and the terminator: a block and what it holds, and the items after it
record ChildrenLaid (inner : Bool) (whole s r : Text) (is js : List Item) : Type 0 where
  tree : Children
  before : Text
  place : Text
  laid : LaidChildren true whole tree before place s r
  inside : ChildrenItems inner before tree is
  following : ItemsIn (PlaceItems (last_place (has_block tree)) place) js
  ends : ValueEnd true s

-- nodes and the gap after them are the content of a document
content_of_nodes : {inner : Bool} (whole s r g : Text) {is js : List Item} {xs : Nodes} → LaidNodes true whole xs s (g ++ r) → NodesItems inner xs is → Front g js → ContentLaid inner whole s r (is ++ js)
content_of_nodes {inner} whole _ r g {js = js} no_node NodesItems.no_node f = record {
  tree = document (Some (record { leading = g; trailing = [] })) (span_of whole r r) none;
  laid = without_nodes (here f r) refl;
  items = subst (λ (l : List Item). DocumentItems inner (document (Some (record { leading = g; trailing = [] })) (span_of whole r r) none) l) (append-nil (js ++ []) ∙ append-nil js)
      (of_document (ItemsIn.items (subst (λ (t : Text). GapItems t js) (sym (gap_without_bom g (alone f))) (alone f))) NodesItems.no_node (ItemsIn.items GapItems.none));
}
content_of_nodes whole s r g (a_node {x = x} {xs = xs} l n e z ns) i f = record {
  tree = document (Some (record { leading = []; trailing = g })) (content_span (span_of whole r r) (first x xs)) (first x xs);
  laid = with_nodes (a_node l n e z ns) (here f r) refl;
  items = of_document (ItemsIn.items GapItems.none) i (ItemsIn.items (alone f));
}

content_laid : {inner : Bool} {whole s r g : Text} {is js : List Item} → NodesLaid inner whole s (g ++ r) is → Front g js → ContentLaid inner whole s r (is ++ js)
content_laid {inner} {whole} {s} {r} {g} {is} {js} x f =
    subst (λ (l : List Item). ContentLaid inner whole s r l) (sym (append_assoc x.own x.later js) ∙ ap (λ (l : List Item). l ++ js) x.same)
    (content_of_nodes whole s r (x.pending ++ g) (subst (λ (t : Text). LaidNodes true whole x.tree s t) (sym (append_assoc x.pending g r)) x.laid) x.items (joined x.front f))

-- the lists of items in a node, in a block and in a document
node_same : (p a b c d e f : List Item) → ((p ++ (map on_line a ++ [])) ++ map on_line b ++ map on_line c ++ map on_line d ++ map on_line e ++ []) ++ map on_line f ≡ p ++ map on_line (a ++ b ++ c ++ d ++ e ++ f)
node_same p a b c d e f = simp (map-append, append_assoc, append-nil)

block_lists : (p a b c : List Item) → p ++ (map on_line a ++ map on_line b ++ map on_line c) ≡ p ++ map on_line (a ++ b ++ c)
block_lists p a b c = simp (map-append, append_assoc)

line_lists : (p a b c : List Item) → a ≡ [] → c ≡ [] → map on_line p ++ (map on_line b ++ []) ≡ map on_line (p ++ (a ++ b ++ c))
line_lists p a b c e f = rw (e, f) (simp (map-append, append-nil))

content_lists : (a b c : List Item) → map on_line a ++ map on_line b ++ (map on_line c ++ []) ≡ map on_line (a ++ b ++ c)
content_lists a b c = simp (map-append, append_assoc, append-nil)

module _ (inner compact : Bool) (number : ℕ) (s : Settings) (ok : list_all is_space s.indent ≡ true) (with : s.no_comments ≡ false) (keep : Bool) (whole : Text) (no_keep : s.entry_autoformate_keep ≡ false) (spelling : Keeping) (all : inner ≡ true → keeps_texts spelling ≡ true) where
  -- what is kept before a terminator, before that
  last_stands : (has : Bool) (f : NodeFormat) (t : NodeTexts) → Tail (last_place has) t.last → KeptEnd s.no_comments f.terminator t.space t.comment → (r : Text)
      → InPlace (last_place has) ((t.last ++ t.space) ++ ((t.comment ++ (10 ∷ [])) ++ r)) ((t.comment ++ (10 ∷ [])) ++ r)
  last_stands has f t k e r =
      subst (λ (x : Text). InPlace (last_place has) x ((t.comment ++ (10 ∷ [])) ++ r)) (last_joined t.last t.space t.comment r)
      (subst (λ (x : Text). InPlace (last_place has) (t.last ++ (t.space ++ (t.comment ++ (10 ∷ r)))) x) (sym (append_assoc t.comment (10 ∷ []) r)) (last_text has k (line_end_of s.no_comments f.terminator t.space t.comment e) r))

  mutual
    children_laid : {level : ℕ} (depth : ℕ) (b : Before) (h : Head) (f : NodeFormat) (t : NodeTexts) (x : TypeTexts) {k l : Children} → h.format ≡ Some (with_type_texts x (line_of (indentation s level) t)) → SpelledChildren compact number s spelling level k l
        → ChildrenKeepNone k → AreWellFormedChildren (children_data k) → SpacesTexts number s level (has_block k) b f t → {is js : List Item} → ChildrenItems inner f.before_children k is
        → ItemsIn (PlaceItems (last_place (has_block k)) f.before_terminator) js → (r : Text)
        → ChildrenLaid inner whole (print_tail h (one_lined_children keep k l) depth ++ r) ((t.comment ++ (10 ∷ [])) ++ (t.following ++ r)) (map on_line is) (map on_line js)
    children_laid depth b h f t w line (blockless {level = level}) o v kept ChildrenItems.no_block i r =
        let last = kept_in s.no_comments with f.before_terminator t.last kept.last i in
        let rest = t.following ++ r in
        rw (plain_text h (indentation s level) t w line depth r)
        (record {
          tree = no_children;
          before = [];
          place = t.last ++ t.space;
          laid = no_block (record { is = last_stands false f t last.stands kept.end rest; text = refl });
          inside = ChildrenItems.no_block;
          following = ItemsIn.items (kept_last s.no_comments with false f.terminator t.space t.comment t.last kept.end last);
          ends = subst (ValueEnd true) (last_joined t.last t.space t.comment rest) (last_ends last.stands (line_end_of s.no_comments f.terminator t.space t.comment kept.end) rest);
        })
    children_laid depth b h f t types line (spelled_block {level = level} {b = b'} {f = g} {g = g'} {at = span} {at' = span'} {ns = ns} {xs = ns'} c same nodes) o v kept {js = ks} (block {is = is} i (of_document {a = a} {b = e'} {c = d} ia ib id)) j r =
        let before = kept_in s.no_comments with f.before_children t.before_block kept.before_block i in
        let rest = t.following ++ r in
        let after = (t.last ++ t.space) ++ ((t.comment ++ (10 ∷ [])) ++ rest) in
        let texts = block_of compact (indentation s level) ns c.0 c.1 in
        let fronts = block_fronts s ok level (block_texts compact (indentation s level) ns c.0 c.1)
        (lines_front s ok with number (level + 1) at_start b' (without_bom (or_empty_document g).leading) c.0 c.2.leading ia)
        (lines_front s ok with number (level + 1) c.2.last c.2.after_it (or_empty_document g).trailing c.1 c.2.trailing id) in
        let old = document g span ns in
        let laid' = document g' span' ns' in
        let x = nodes_laid (depth + 1) nodes o v ib fronts.leading (texts.trailing ++ (125 ∷ after)) in
        let y = content_laid x fronts.trailing in
        one_or_more (λ (z : Document). ChildrenLaid inner whole (print_tail h (children z) depth ++ r) ((t.comment ++ (10 ∷ [])) ++ rest) (map on_line (is ++ (a ++ e' ++ d))) (map on_line ks)) (keep && is_on_one_line old) (in_one_line laid') (one_lined_document keep old laid')
        (λ on. let w = (and_parts (braces_on_line g) (nodes_on_line ns) (and_parts keep (is_on_one_line old) on).1) in
        let n = braces_nothing g w.0 ia id in
        let m = nodes_line inner number s with whole no_keep spelling all (depth + 1) w.1 nodes o v ib after in
        let l = content_of_nodes whole (print_nodes (nodes_in_line ns') (depth + 1) ++ (125 ∷ after)) (125 ∷ after) [] m.laid m.items nothing in
        rw (line_text h (indentation s level) t types line span' (nodes_in_line ns') depth r)
        (block_laid l.tree l.laid (subst (λ (z : List Item). ChildrenItems inner (t.before_block ++ (32 ∷ [])) (children l.tree) z) (line_lists is a e' d n.0 n.1) (block (ItemsIn.items before.spaced) l.items))))
        (λ on. rw (block_text h (indentation s level) t types line g' span' (one_lined_nodes keep ns ns') texts depth r c.3)
        (block_laid y.tree y.laid
        (subst (λ (l : List Item). ChildrenItems inner (t.before_block ++ (32 ∷ [])) (children y.tree) l) (block_lists (map on_line is) a e' d ∙ sym (map-append on_line is (a ++ e' ++ d))) (block (ItemsIn.items before.spaced) y.items))))
      where
        -- what comes before the block and after it
        block_laid : (z : Document) {m : Text} → LaidContent true whole z m (125 ∷ ((t.last ++ t.space) ++ ((t.comment ++ (10 ∷ [])) ++ (t.following ++ r)))) → {l : List Item} → ChildrenItems inner (t.before_block ++ (32 ∷ [])) (children z) l
            → ChildrenLaid inner whole (t.before_block ++ (32 ∷ 123 ∷ m)) ((t.comment ++ (10 ∷ [])) ++ (t.following ++ r)) l (map on_line ks)
        block_laid z m l =
            let last = kept_in s.no_comments with f.before_terminator t.last kept.last j in
            let before = kept_in s.no_comments with f.before_children t.before_block kept.before_block i in
            record {
              tree = children z;
              before = t.before_block ++ (32 ∷ []);
              place = t.last ++ t.space;
              laid = a_block (record { is = tail_spaced before_block before.stands _; text = sym (append_assoc t.before_block (32 ∷ []) _) }) m
                  (record { is = last_stands true f t last.stands kept.end (t.following ++ r); text = refl });
              inside = l;
              following = ItemsIn.items (kept_last s.no_comments with true f.terminator t.space t.comment t.last kept.end last);
              ends = tail_ends before.stands _ (space_ends _);
            }

    -- a node after a gap
    node_laid : (depth : ℕ) {level : ℕ} {before : Before} {n n' : Node} → SpelledNode compact number s spelling level before n n' → NodeKeepsNone n → IsWellFormedNode (node_data n) → {is : List Item} → NodeItems inner n is
        → {p : Text} {ps : List Item} → Front p ps → (r : Text) → NodeLaid inner whole (p ++ (print_node (one_lined_node keep n n') depth ++ r)) r (ps ++ map on_line is)
    node_laid depth (spelled {level = level} {b = before} {h = h} {x = h'} {k = k} {l = k'} head kids) flags v (of_node {a = a} {b = b} {c = ci} {d = d} {e = e} {f = g} ia (ts, es, it, ies, ib) ic id ie ig) {p} {ps} front r =
        let f = written_head s no_keep spelling level (has_block k) before h h' k head flags.0 v in
        let t = f.format.texts in
        let w = f.format.types in
        let kept = f.format.kept in
        let line = f.format.is in
        let i = indentation s level in
        let format = or_empty h.format in
        let has = has_block k in
        let tail = print_tail h' (one_lined_children keep k k') depth ++ r in
        let rest = t.following ++ r in
        let end = t.comment ++ (10 ∷ []) in
        let lines = joined (before_front s ok with number level has before format t kept ia) (indented s ok level) in
        let x = children_laid depth before h' format t w line kids flags.1 v.3 kept ic id r in
        let y = entries_laid s with inner whole h.entries h'.entries f.entries (head_holds inner number s with whole no_keep spelling all head flags.0) ies tail x.ends in
        let pieces = print_pieces h'.entries ++ tail in
        let named = identifier_at whole h'.name pieces in
        let ty = type_laid whole h'.ty w (print_identifier h'.name ++ pieces) f.ty f.format.spaces f.format.untyped in
        let start = print_type h'.ty w.before_name w.after_name ++ (w.after ++ (print_identifier h'.name ++ pieces)) in
        let leading = p ++ (t.before ++ i) in
        rw (node_text h' i t w line depth (print_pieces h'.entries) (print_tail h' (one_lined_children keep k k') depth) r)
        (record {
          tree = node (record { ty = ty.0; name = named; entries = y.entries; format = Some (node_format leading ty.1.before_name ty.1.after_name ty.1.after x.before x.place end []); span = span_of whole start (end ++ rest) }) x.tree;
          pending = t.following;
          own = (ps ++ (map on_line a ++ [])) ++ map on_line b ++ map on_line ci ++ map on_line d ++ map on_line e ++ [];
          later = map on_line g;
          laid = λ ns. a_node {leading = leading} {end = end} {t = start} {u = end ++ rest} {v = rest} (record { is = front.gap (lines.gap Gap.no_gap); text = sym (append_assoc p (t.before ++ i) start) })
              (laid_node ty.2 (identifier_laid whole h'.name pieces f.name y.ends) y.laid x.laid)
              (record { is = subst (λ (z : Text). Terminator z rest) (sym (append_assoc t.comment (10 ∷ []) rest)) (line_terminator (line_end_of s.no_comments format.terminator t.space t.comment kept.end) rest); text = refl }) refl ns;
          items = of_node (ItemsIn.items (alone (joined front lines))) (
            map on_line ts,
            map on_line es,
            ty.3 inner (map on_line ts) (head_type_stays s with inner all head f.format ts it),
            y.items,
            ap (map on_line) ib ∙ map-append on_line ts es,
          ) x.inside x.following (kept_end s.no_comments with format.terminator t.space t.comment kept.end ie) (ItemsIn.items GapItems.none);
          front = lines_front s ok with number level (past_node format.terminator) kept.after_it format.trailing t.following kept.following ig;
          same = node_same ps a b ci d e g;
        })

    nodes_laid : (depth : ℕ) {level : ℕ} {before : Before} {ns ns' : Nodes} → SpelledNodes compact number s spelling level before ns ns' → NodesKeepNone ns → AreWellFormed (nodes_data ns) → {is : List Item} → NodesItems inner ns is
        → {p : Text} {ps : List Item} → Front p ps → (t : Text) → NodesLaid inner whole (p ++ (print_nodes (one_lined_nodes keep ns ns') depth ++ t)) t (ps ++ map on_line is)
    nodes_laid depth nodeless o v NodesItems.no_node {p} {ps} front t =
        record { tree = none; pending = p; own = []; later = ps; laid = no_node; items = NodesItems.no_node; front = front; same = sym (append-nil ps) }
    nodes_laid depth (one_more {n = n} {x = n'} {ns = ns} {xs = ns'} f r fs) o v (NodesItems.a_node {is = is} {js = js} i k) {p} {ps} front t =
        let x = node_laid depth f o.0 v.0 i front (print_nodes (one_lined_nodes keep ns ns') depth ++ t) in
        let y = nodes_laid depth fs o.1 v.1 k x.front t in
        rw (append_assoc (print_node (one_lined_node keep n n') depth) (print_nodes (one_lined_nodes keep ns ns') depth) t)
        (record {
          tree = first x.tree y.tree;
          pending = y.pending;
          own = x.own ++ y.own;
          later = y.later;
          laid = x.laid y.laid;
          items = NodesItems.a_node x.items y.items;
          front = y.front;
          same = append_assoc x.own y.own y.later ∙ ap (λ (l : List Item). x.own ++ l) y.same ∙ sym (append_assoc x.own x.later (map on_line js)) ∙ ap (λ (l : List Item). l ++ map on_line js) x.same
              ∙ append_assoc ps (map on_line is) (map on_line js) ∙ ap (λ (l : List Item). ps ++ l) (sym (map-append on_line is js));
        })

  -- the content of a document that is laid out
  document_content : (level depth : ℕ) (d d' : Document) (is : List Item) → DocumentItems inner d is → SpelledDocument compact number s spelling level d d' → DocumentKeepsNone d → AreWellFormed (document_data d)
      → ContentLaid inner whole (print_document (one_lined_document keep d d') depth) [] (map on_line is)
  document_content level depth (document f span ns) (document f' span' ns') _ (of_document {a = a} {b = b} {c = d} ia ib id) (before, c, same, nodes) o v =
      let following = c.1 ++ newline_at_end compact ns in
      let x = nodes_laid depth nodes o v ib (lines_front s ok with number level at_start before (without_bom (or_empty_document f).leading) c.0 c.2.leading ia) (following ++ []) in
      let y = content_laid x (joined (lines_front s ok with number level c.2.last c.2.after_it (or_empty_document f).trailing c.1 c.2.trailing id) (newline_if compact ns)) in
      subst (λ (l : List Item). ContentLaid inner whole (print_document (document f' span' (one_lined_nodes keep ns ns')) depth) [] l) (content_lists a b d)
      (subst (λ (t : Text). ContentLaid inner whole t [] (map on_line a ++ map on_line b ++ (map on_line d ++ []))) (document_joined f' ns' c.3) y)
    where
      document_joined : (f' : Option DocumentFormat) (ns' : Nodes) → f' ≡ Some (content_of compact ns c.0 c.1)
          → c.0 ++ (print_nodes (one_lined_nodes keep ns ns') depth ++ ((c.1 ++ newline_at_end compact ns) ++ [])) ≡ print_document (document f' span' (one_lined_nodes keep ns ns')) depth
      document_joined f' ns' e = rw e (simp (append_assoc, append-nil))

  -- a node that is laid out, as the content of a document
  node_content : (level depth : ℕ) (before : Before) (n n' : Node) (is : List Item) → NodeItems inner n is → SpelledNode compact number s spelling level before n n' → NodeKeepsNone n → IsWellFormedNode (node_data n)
      → ContentLaid inner whole (print_node (one_lined_node keep n n') depth) [] (map on_line is)
  node_content level depth before n n' is i f o v =
      let x = node_laid depth f o v i nothing [] in
      subst (λ (l : List Item). ContentLaid inner whole (print_node (one_lined_node keep n n') depth) [] l) (ap (λ (l : List Item). l ++ x.later) (append-nil x.own) ∙ x.same)
      (subst (λ (t : Text). ContentLaid inner whole t [] (x.own ++ [] ++ x.later)) (append-nil (print_node (one_lined_node keep n n') depth))
      (content_of_nodes whole (print_node (one_lined_node keep n n') depth ++ []) [] x.pending (x.laid no_node) (NodesItems.a_node x.items NodesItems.no_node) x.front))

-- each item of the document is one of the laid text, as it is on a line, in the same order
pub comments_stay : (inner compact : Bool) (number : ℕ) (s : Settings) → list_all is_space s.indent ≡ true → s.no_comments ≡ false → (keep : Bool) (level depth : ℕ) → (d d' e : Document) → (is : List Item)
    → DocumentItems inner d is → {kept : Keeping} → IsWrittenDocument compact number s kept level d d' → (inner ≡ true → keeps_texts kept ≡ true) → LaidDocument e (print_document (one_lined_document keep d d') depth) → DocumentItems inner e (map on_line is)
comments_stay inner compact number s ok with keep level depth d d' e is i {kept} f all there =
    let t = print_document (one_lined_document keep d d') depth in
    let x = document_content inner compact number s ok with keep t f.no_keep kept all level depth d d' is i f.laid f.unflagged f.fit in
    subst (λ (y : Document). DocumentItems inner y (map on_line is)) (one_laid_document t x.tree e (LaidDocumentAs.no_bom x.laid) there) x.items

-- the same for a node that is printed alone
pub node_comments_stay : (inner compact : Bool) (number : ℕ) (s : Settings) → list_all is_space s.indent ≡ true → s.no_comments ≡ false → (keep : Bool) (level depth : ℕ) → (before : Before) (n n' : Node) → (e : Document) → (is : List Item)
    → NodeItems inner n is → {kept : Keeping} → IsWrittenNode compact number s kept level before n n' → (inner ≡ true → keeps_texts kept ≡ true) → LaidDocument e (print_node (one_lined_node keep n n') depth) → DocumentItems inner e (map on_line is)
node_comments_stay inner compact number s ok with keep level depth before n n' e is i {kept} f all there =
    let t = print_node (one_lined_node keep n n') depth in
    let x = node_content inner compact number s ok with keep t f.no_keep kept all level depth before n n' is i f.laid f.unflagged f.fit in
    subst (λ (y : Document). DocumentItems inner y (map on_line is)) (one_laid_document t x.tree e (LaidDocumentAs.no_bom x.laid) there) x.items
