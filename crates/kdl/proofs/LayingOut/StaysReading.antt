-- Nodes that still read back, after each step of layout.
use Rattle.kdl.proofs.Common.{◌≡◌, keeping, keeps_texts, ℕ, zero, suc, ◌+◌, ◌<◌, ◌≤◌, List, [], ◌∷◌, ◌++◌, length, map, set, get_or, Option, None, Some, option_map, refl, sym, ap, ◌∙◌, subst, arith, Bool, true, Vec, Global, All, list_all, ◌&&◌, is_some, not, Text, is_space, SourceSpan, Entry, Identifier, entry_tree, identifier_tree, unspelled, Settings, indentation, settings, or_empty, or_empty_document, NodesKeepReading, Keeps, KeepsName, with_spelling, with_spelling_if, IsSpacedContent, IsSpacedLine, has_block, Before, Layout, scalars, IsRespelledIf, IsTypedFormat, SpellingRule, Rests, Anything, EntryReads, NodesRead, last_node, next_node, ContentReads, BlockReads, block, DocumentReads, DocumentFormat, NodeFormat, Head, Node, node, children_of, document, listed_nodes, block_reads, with_block, document_format_tree, node_format_tree, text_of, text_scalars, filled_block, filled, with_at, whole, enclosed, PartlyOpen, IsAtLevel, IsUnderWay, NodeStays, StaysAs, StayAs, StepStays, child_nodes, nodes_in, document_tree, head_tree, node_tree, nodes_tree, KdlDocument, out-KdlDocument, out-KdlNode, LayoutFrame, KdlNode}
use Rattle.kdl_layout.specs.KeptForm.{EntriesKeepReading, DocumentKeepsReading}
use Rattle.kdl_layout.proofs.Formatting.PartsRead.{document_reads, own_reads}
use Rattle.kdl_layout.proofs.Respelling.Written.{NameReads, NameReadsIf, respelled_reads, respelled_reads_if, typed_line}
use Rattle.kdl_grammar.specs.ReadsBack.{with_nodes as content_nodes}
use Rattle.kdl_grammar.proofs.ReadingBack.Composing.{entries_read}
use Rattle.kdl.specs.Internal.Spacing.{outermost, NodesStay}
use Rattle.kdl.proofs.LayingOut.BlockSteps.{Opened, node_is, outermost_more, partly_all}
use Rattle.kdl.proofs.LayingOut.PartsSpaced.{block_there}
use Rattle.kdl.proofs.ReadingBack.{whole_as}
use Rattle.kdl_layout.proofs.Formatting.PartsRead.{content_with}
use Rattle.kdl.proofs.Trees.{document_tree_out, node_tree_out}

module _ (s : Settings) where
  pub stay_then : {ns ms os : List Node} → StayAs s ns ms → StayAs s ms os → StayAs s ns os
  stay_then a b = (λ e. b.0 (a.0 e), λ P x. b.1 P (a.1 P x))

  pub stay_same : (ns : List Node) → StayAs s ns ns
  stay_same ns = (λ e. e, λ P x. x)

  -- nodes, one by one
  abbrev AllStayAs : List Node → List Node → Type 0
  AllStayAs [] [] = Unit {0}
  AllStayAs (n ∷ ns) (m ∷ ms) = StaysAs s n m × AllStayAs ns ms
  AllStayAs _ _ = ⊥

  all_read : (P : Rests) (ns ms : List Node) → AllStayAs ns ms → NodesRead P (listed_nodes ns) → NodesKeepReading s (listed_nodes ns) → NodesStay s P ms
  all_read P [] [] a x k = (x, k)
  all_read P [] (m ∷ ms) a x k = absurd a
  all_read P (n ∷ ns) [] a x k = absurd a
  all_read P (n ∷ []) (m ∷ []) a (last_node x) k = let w = a.0 P (x, k.0) in (last_node w.0, (w.1, tt))
  all_read P (n ∷ []) (m ∷ m' ∷ ms) a x k = absurd a.1
  all_read P (n ∷ n' ∷ ns) (m ∷ []) a x k = absurd a.1
  all_read P (n ∷ n' ∷ ns) (m ∷ m' ∷ ms) a (next_node x xs) k =
      let w = a.0 Anything (x, k.0) in
      let v = all_read P (n' ∷ ns) (m' ∷ ms) a.1 xs k.1 in
      (next_node w.0 v.0, (w.1, v.1))

  all_none : (ns ms : List Node) → AllStayAs ns ms → ns ≡ [] → ms ≡ []
  all_none [] [] a e = refl
  all_none [] (m ∷ ms) a e = absurd a
  all_none (n ∷ ns) [] a e = refl
  all_none (n ∷ ns) (m ∷ ms) a e = absurd cc

  pub pointwise : (ns ms : List Node) → AllStayAs ns ms → StayAs s ns ms
  pointwise ns ms a = (all_none ns ms a, λ P x. all_read P ns ms a x.0 x.1)

  same_all : (ns : List Node) → AllStayAs ns ns
  same_all [] = tt
  same_all (n ∷ ns) = (λ P x. x, same_all ns)

  with_at_stays : (f g : KdlNode → Node) → ((n : KdlNode) → StaysAs s (f n) (g n)) → (ns : List KdlNode) (i : ℕ) → AllStayAs (with_at f ns i) (with_at g ns i)
  with_at_stays f g h [] i = tt
  with_at_stays f g h (n ∷ ns) zero = (h n, same_all (map node_tree ns))
  with_at_stays f g h (n ∷ ns) (suc i) = (λ P x. x, with_at_stays f g h ns i)

  pub set_stays : (ns : List KdlNode) (i : ℕ) (m d : KdlNode) → i < length ns → StaysAs s (node_tree (get_or ns i d)) (node_tree m) → AllStayAs (map node_tree ns) (map node_tree (set ns i m))
  set_stays [] i m d h a = absurd (omega arith)
  set_stays (n ∷ ns) zero m d h a = (a, same_all (map node_tree ns))
  set_stays (n ∷ ns) (suc i) m d h a = (λ P x. x, set_stays ns i m d (omega arith) a)

  set_with_stays : (f : KdlNode → Node) (ns : List KdlNode) (i : ℕ) (m d : KdlNode) → i < length ns → StaysAs s (f (get_or ns i d)) (node_tree m) → AllStayAs (with_at f ns i) (map node_tree (set ns i m))
  set_with_stays f [] i m d h a = absurd (omega arith)
  set_with_stays f (n ∷ ns) zero m d h a = (a, same_all (map node_tree ns))
  set_with_stays f (n ∷ ns) (suc i) m d h a = (λ P x. x, set_with_stays f ns i m d (omega arith) a)

  -- the nodes in a block
  pub content_stays : {P : Rests} {l t : Text} (ns ms : List Node) → StayAs s ns ms → ContentReads P l t (listed_nodes ns) → NodesKeepReading s (listed_nodes ns) → ContentReads P l t (listed_nodes ms) × NodesKeepReading s (listed_nodes ms)
  content_stays {P} {l} {t} [] ms a c k = subst (λ (z : List Node). ContentReads P l t (listed_nodes z) × NodesKeepReading s (listed_nodes z)) (sym (a.0 refl)) (c, k)
  content_stays (n ∷ ns) ms a (content_nodes x y g) k = let w = a.1 _ (y, k) in (content_with (listed_nodes ms) x w.0 g, w.1)

  block_stays : (f : Option DocumentFormat) (at : SourceSpan) (ns ms : List Node) → StayAs s ns ms → BlockReads (document f at (listed_nodes ns)) → NodesKeepReading s (listed_nodes ns)
      → BlockReads (document f at (listed_nodes ms)) × NodesKeepReading s (listed_nodes ms)
  block_stays f at ns ms a (block c) k = let w = content_stays ns ms a c k in (block w.0, w.1)

  children_stay : (h : Head) (o : Option KdlDocument) (ns ms : List Node) → StayAs s ns ms → StaysAs s (node h (filled_block o ns)) (node h (filled_block o ms))
  children_stay h None ns ms a P x = x
  children_stay h (Some d) ns ms a P x =
      let f = option_map document_format_tree (out-KdlDocument d).format in
      let at = (out-KdlDocument d).span in
      let w = block_stays f at ns ms a (block_reads x.0) x.1.1 in
      (with_block (document f at (listed_nodes ms)) x.0 w.0, (x.1.0, w.1))

  pub filled_stays : (n : KdlNode) (ns ms : List Node) → StayAs s ns ms → StaysAs s (filled n ns) (filled n ms)
  filled_stays n ns ms a = children_stay (head_tree (out-KdlNode n)) (out-KdlNode n).children ns ms a

  -- under all blocks above
  pub outermost_stays : (above : List LayoutFrame) (ns ms : List Node) → StayAs s ns ms → StayAs s (outermost above ns) (outermost above ms)
  outermost_stays [] ns ms a = a
  outermost_stays (b ∷ above) ns ms a =
      pointwise (outermost (b ∷ above) ns) (outermost (b ∷ above) ms)
      (with_at_stays (λ n. filled n (outermost above ns)) (λ n. filled n (outermost above ms)) (λ n. filled_stays n (outermost above ns) (outermost above ms) (outermost_stays above ns ms a)) b.nodes.items b.at)

-- the open node
open_there : (l : Layout) (level : ℕ) (Open : Before → Node → KdlNode → Type 0) (c next : Before) (olds : List Node) (ns : List KdlNode) (i : ℕ) (d : KdlNode) → PartlyOpen l level c Open olds ns i next
    → (x : Before) × (o : Node) × Open x o (get_or ns i d)
open_there l level Open c next [] [] i d p = absurd p
open_there l level Open c next [] (n ∷ ns) i d p = absurd p
open_there l level Open c next (o ∷ olds) [] i d p = absurd p
open_there l level Open c next (o ∷ olds) (n ∷ ns) zero d p = (c, o, p.0)
open_there l level Open c next (o ∷ olds) (n ∷ ns) (suc i) d p = open_there l level Open p.0 next olds ns i d p.3

inner_level : (l : Layout) (above : List LayoutFrame) (b : LayoutFrame) (d : KdlNode) (level : ℕ) (c : Before) (olds : List Node) → IsUnderWay l level c olds above b → (k : ℕ) × IsAtLevel l k b
inner_level l [] b d level c olds u = (level, u.0)
inner_level l (a ∷ above) b d level c olds u =
    let q = (open_there l level (Opened l level a.around above b) c a.next olds a.nodes.items a.at d u.1).2 in
    inner_level l above b d (level + 1) q.0 q.1 q.3

last_open : (l : Layout) (above : List LayoutFrame) (outer inner : LayoutFrame) (d : KdlNode) (level : ℕ) (c : Before) (olds : List Node) → IsUnderWay l level c olds (above ++ outer ∷ []) inner
    → (k : ℕ) × (x : Before) × (o : Node) × Opened l k outer.around [] inner x o (get_or outer.nodes.items outer.at d)
last_open l [] outer inner d level c olds u =
    let q = open_there l level (Opened l level outer.around [] inner) c outer.next olds outer.nodes.items outer.at d u.1 in
    (level, q.0, q.1, q.2)
last_open l (a ∷ above) outer inner d level c olds u =
    let q = (open_there l level (Opened l level a.around (above ++ outer ∷ []) inner) c a.next olds a.nodes.items a.at d u.1).2 in
    last_open l above outer inner d (level + 1) q.0 q.1 q.3

-- the next node
pub next_stays : (l : Layout) (above : List LayoutFrame) (b b' : LayoutFrame) (n m : KdlNode) → b.at < length b.nodes.items → get_or b.nodes.items b.at n ≡ n → b'.nodes.items ≡ set b.nodes.items b.at m
    → ((k : ℕ) → IsAtLevel l k b → StaysAs (settings l.config) (node_tree n) (node_tree m))
    → (level : ℕ) (c : Before) (olds : List Node) → IsUnderWay l level c olds above b → StayAs (settings l.config) (whole above b) (whole above b')
next_stays l above b b' n m h g is a level c olds u =
    let s = settings l.config in
    let k = inner_level l above b n level c olds u in
    let own : StaysAs s (node_tree (get_or b.nodes.items b.at n)) (node_tree m) = subst (λ (x : KdlNode). StaysAs s (node_tree x) (node_tree m)) (sym g) (a k.0 k.1) in
    subst (λ (z : List KdlNode). StayAs s (whole above b) (outermost above (map node_tree z))) (sym is)
    (outermost_stays s above (map node_tree b.nodes.items) (map node_tree (set b.nodes.items b.at m)) (pointwise s _ _ (set_stays s b.nodes.items b.at m n h own)))

-- a block is left
pub end_stays : (l : Layout) → list_all is_space (settings l.config).indent ≡ true → (above : List LayoutFrame) (outer inner b : LayoutFrame) (n m : KdlNode) → outer.at < length outer.nodes.items → get_or outer.nodes.items outer.at n ≡ n
    → node_tree m ≡ enclosed outer.around n (map node_tree inner.nodes.items) → b.nodes.items ≡ set outer.nodes.items outer.at m → length inner.nodes.items ≤ inner.at
    → (level : ℕ) (c : Before) (olds : List Node) → IsUnderWay l level c olds (above ++ outer ∷ []) inner → StayAs (settings l.config) (whole (above ++ outer ∷ []) inner) (whole above b)
end_stays l ok above outer inner b n m h g e is all level c olds u =
    let s = settings l.config in
    let ns = map node_tree inner.nodes.items in
    let there = last_open l above outer inner n level c olds u in
    let q = there.3 in
    let spaced = q.2 ns (partly_all l (there.0 + 1) q.0 inner.next q.1 inner.nodes.items inner.at all q.3.1) in
    let own : StaysAs s (filled (get_or outer.nodes.items outer.at n) ns) (node_tree m) =
    subst (λ (x : Node). StaysAs s (filled (get_or outer.nodes.items outer.at n) ns) x) (ap (λ (x : KdlNode). enclosed outer.around x ns) g ∙ sym e) (spaced.1 ok) in
    subst (λ (z : List Node). StayAs s z (whole above b)) (sym (outermost_more above outer ns))
    (subst (λ (z : List KdlNode). StayAs s (outermost above (with_at (λ x. filled x ns) outer.nodes.items outer.at)) (outermost above (map node_tree z))) (sym is)
    (outermost_stays s above _ _ (pointwise s _ _ (set_with_stays s (λ x. filled x ns) outer.nodes.items outer.at m n h own))))

-- a node of which all but the block is laid out
pub own_stays : (l : Layout) → list_all is_space (settings l.config).indent ≡ true → (level : ℕ) (c : Before) (n m : KdlNode) (b : Bool) → b ≡ is_some (out-KdlNode n).children
    → (keeps_type keeps_name : SpellingRule) → Keeps l.keep_spelling (option_map identifier_tree (out-KdlNode n).ty) keeps_type → KeepsName l.keep_spelling (identifier_tree (out-KdlNode n).name) keeps_name
    → option_map identifier_tree (out-KdlNode m).ty ≡ with_spelling_if keeps_type (option_map identifier_tree (out-KdlNode n).ty)
    → identifier_tree (out-KdlNode m).name ≡ with_spelling keeps_name (identifier_tree (out-KdlNode n).name)
    → (f : Option NodeFormat) → IsSpacedLine l.blank_lines (settings l.config) level b c (or_empty (option_map node_format_tree (out-KdlNode n).format)) f
    → IsTypedFormat (keeps_texts (keeping l) && not l.config.no_comments && is_some (option_map identifier_tree (out-KdlNode n).ty)) (or_empty (option_map node_format_tree (out-KdlNode n).format)) f (option_map node_format_tree (out-KdlNode m).format)
    → (olds es : List Entry) → map entry_tree (out-KdlNode n).entries.items ≡ olds → map entry_tree (out-KdlNode m).entries.items ≡ es
    → (EntriesKeepReading (settings l.config) olds → All EntryReads olds → All EntryReads es × EntriesKeepReading (settings l.config) es)
    → (out-KdlNode m).children ≡ (out-KdlNode n).children → StaysAs (settings l.config) (node_tree n) (node_tree m)
own_stays l ok level c n m b e kt kn keeps_type keeps_name ty name f line typed olds es was is reads kids P x =
    let s = settings l.config in
    let N = out-KdlNode n in
    let M = out-KdlNode m in
    let k = children_of (option_map document_tree N.children) in
    let old : NodeStays s P (node (head_tree N) k) = subst (NodeStays s P) (node_tree_out n) x in
    let w = reads (subst (EntriesKeepReading s) was old.1.0) (subst (All EntryReads) was (entries_read old.0)) in
    let all : All EntryReads (map entry_tree M.entries.items) = subst (All EntryReads) (sym is) w.0 in
    let keep : EntriesKeepReading s (map entry_tree M.entries.items) = subst (EntriesKeepReading s) (sym is) w.1 in
    let f' = or_empty (option_map node_format_tree N.format) in
    let o = option_map identifier_tree N.ty in
    let spaced = subst (λ (z : Bool). IsSpacedLine l.blank_lines s level z c f' f) (block_there N.children b e) line in
    let type : IsRespelledIf l.keep_spelling o (option_map unspelled o) (option_map identifier_tree M.ty) = subst (λ (z : Option Identifier). IsRespelledIf l.keep_spelling o (option_map unspelled o) z) (sym ty) keeps_type in
    let own = typed_line l.blank_lines s level (has_block k) c f' (keeping l) o (option_map unspelled o) (option_map identifier_tree M.ty) f (option_map node_format_tree M.format) type spaced typed in
    subst (NodeStays s P) (ap (λ (o : Option KdlDocument). node (head_tree M) (children_of (option_map document_tree o))) (sym kids) ∙ sym (node_tree_out m)) (
      own_reads l.blank_lines s ok level c (head_tree N) (head_tree M) (or_empty (option_map node_format_tree N.format)) k
          (subst NameReadsIf (sym ty) (respelled_reads_if l.keep_spelling (option_map identifier_tree N.ty) (option_map unspelled (option_map identifier_tree N.ty)) (with_spelling_if kt (option_map identifier_tree N.ty)) refl (scalars N.ty) keeps_type))
          (subst NameReads (sym name) (respelled_reads l.keep_spelling (identifier_tree N.name) (unspelled (identifier_tree N.name)) (with_spelling kn (identifier_tree N.name)) refl (text_scalars N.name.value) keeps_name)) all own old.0,
      (keep, old.1.1),
    )

-- a node of which the nodes in the block are others
pub below_stays : (s : Settings) (n m : KdlNode) (o : Option KdlDocument) → node_tree m ≡ filled n (map node_tree (nodes_in o)) → StayAs s (map node_tree (child_nodes n)) (map node_tree (nodes_in o)) → StaysAs s (node_tree n) (node_tree m)
below_stays s n m o e a =
    subst (λ (x : Node). StaysAs s x (node_tree m)) (sym (node_is n))
    (subst (λ (x : Node). StaysAs s (filled n (map node_tree (child_nodes n))) x) (sym e) (filled_stays s n (map node_tree (child_nodes n)) (map node_tree (nodes_in o)) a))

-- a layout from the start to the end
pub all_stays : (l : Layout) (level : ℕ) (before : Before) (olds xs : List KdlNode) (above above' : List LayoutFrame) (b b' : LayoutFrame)
    → above ≡ [] → b.nodes.items ≡ olds → b.at ≡ 0 → b.level ≡ level → text_of b.before ≡ indentation (settings l.config) level → b.next ≡ before
    → map node_tree xs ≡ whole above' b' → StepStays l above b above' b' → StayAs (settings l.config) (map node_tree olds) (map node_tree xs)
all_stays l level before olds xs above above' b b' empty holds start y t next tree f =
    let s = settings l.config in
    let begun : IsUnderWay l level before (map node_tree olds) above b =
    subst (λ z. IsUnderWay l level before (map node_tree olds) z b) (sym empty) ((y, t), rw (holds, start) (next, refl)) in
    subst (λ z. StayAs s z (map node_tree xs)) (ap (λ z. whole z b) empty ∙ ap (map node_tree) holds)
    (subst (λ z. StayAs s (whole above b) z) (sym tree) (f level before (map node_tree olds) begun))

-- a document of which the nodes are others, and the texts around them are laid out
pub document_stays : (l : Layout) → list_all is_space (settings l.config).indent ≡ true → (level : ℕ) (b : Before) (d m : KdlDocument) → (out-KdlDocument m).span ≡ (out-KdlDocument d).span
    → (v : Vec KdlNode Global) → (out-KdlDocument m).nodes ≡ v → (g : Option DocumentFormat) → option_map document_format_tree (out-KdlDocument m).format ≡ g
    → IsSpacedContent l.compact_empty l.blank_lines (settings l.config) level (nodes_tree (out-KdlDocument d).nodes.items) (or_empty_document (option_map document_format_tree (out-KdlDocument d).format)) b g
    → StayAs (settings l.config) (map node_tree (out-KdlDocument d).nodes.items) (map node_tree v.items)
    → DocumentKeepsReading (settings l.config) (document_tree d) → DocumentReads (document_tree d) → DocumentReads (document_tree m)
document_stays l ok level b d m span v holds g is c a k x =
    let s = settings l.config in
    let D = out-KdlDocument d in
    let M = out-KdlDocument m in
    let f = option_map document_format_tree D.format in
    let ns = map node_tree D.nodes.items in
    let old : DocumentReads (document f D.span (listed_nodes ns)) = subst DocumentReads (document_tree_out d) x in
    let keep : DocumentKeepsReading s (document f D.span (listed_nodes ns)) = subst (DocumentKeepsReading s) (document_tree_out d) k in
    let new : DocumentReads (document g D.span (listed_nodes (map node_tree v.items))) = whole_as g D.span D.span _ _ (λ t z. (content_stays s ns (map node_tree v.items) a z keep).0) (document_reads l.blank_lines s ok l.compact_empty level b f g D.span (listed_nodes ns) c old) in
    subst DocumentReads (sym (document_tree_out m))
    (subst (λ (z : Option DocumentFormat). DocumentReads (document z M.span (nodes_tree M.nodes.items))) (sym is)
    (subst (λ (z : SourceSpan). DocumentReads (document g z (nodes_tree M.nodes.items))) (sym span)
    (subst (λ (z : Vec KdlNode Global). DocumentReads (document g D.span (nodes_tree z.items))) (sym holds) new)))
