-- What edits make of nodes and documents that read back.
use Rattle.kdl.proofs.Common.{◌≡◌, refl, ℕ, zero, suc, ◌+◌, Bool, true, false, List, [], ◌∷◌, ◌++◌, map, set, slice_get, Option, Some, None, IfSome, Result, Ok, Err, OnOk, OnErr, IfOk, option_map, option_and_then, Vec, Global, sym, subst, ◌∙◌, arith, All-cons, All-head, All-nil, All-tail, IfOk-weaker, All, list_all, if◌then◌else◌, is_ok, with_item, Text, SourceSpan, Value, text_scalars, print_identifier, Identifier, entry_tree, identifier_tree, KdlEntry, KdlIdentifier, no_gap, leading_text, print_document, print_node, trailing_text, Rests, Anything, TextEnd, last_rests, EntryReads, NodeReads, NodesRead, last_node, next_node, ContentReads, one_text, BlockReads, block, DocumentReads, DocumentFormat, document, Node, node, Nodes, children_of, document_data, node_data, node_before, IsInserted, removed, under, place_of, removed_place, sought, there, document_format_tree, NodeKey, Key, Index, with_children, with_entries, with_node, new_document, is_node_named, node_named, node_place, nodes_of, with_node_named, with_node_there, entries_of, found_entry, key_place, with_entry_there, with_found_entry, DocumentReadsBack, NodeEnds, NodeReadsBack, ReadsAs, document_tree, head_tree, node_tree, nodes_tree, KdlDocument, out-KdlDocument, out-KdlNode, KdlNode}
use Rattle.std.proofs.lemmas.List.Elements.{All-append, All-map}
use Rattle.std.proofs.lemmas.List.Sorted.{All-permutation}
use Rattle.std.specs.List.{items_where_true}
use Rattle.std.specs.List.Retain.{IsFiltered}
use Rattle.std.specs.List.Sorted.{IsPermutation}
use Rattle.kdl_text.specs.Chars.{is_scalar}
use Rattle.kdl_value.specs.WellFormed.{IsWellFormed}
use Rattle.kdl_entry.specs.Entries.{IsIdentifierText}
use Rattle.kdl_entry.specs.Tree.{no_span}
use Rattle.kdl_entry.proofs.Laying.FormlessLaid.{formless_reads_back}
use Rattle.kdl_entry.proofs.WellFormed.{name_scalars}
use Rattle.kdl_grammar.specs.Data as data'
use Rattle.kdl_grammar.specs.Grammar.{IsDocument}
use Rattle.kdl_grammar.specs.ReadsBack.{with_nodes as content_nodes}
use Rattle.kdl_grammar.proofs.ReadingBack.Composing as composing
use Rattle.kdl_layout.proofs.Formatting.PartsRead.{content_with}
use Rattle.kdl_grammar.proofs.ReadingBack.Entries.{formless_reads, new_reads, value_reads}
use Rattle.kdl_grammar.proofs.ReadingBack.Reads.{node_derived, reads_derived}
use Rattle.kdl_parts.specs.Edits.{inserted}
use Rattle.kdl.specs.Cleared.{new_node}
use Rattle.kdl.specs.ReadsBack.{BlockReadsBack, EntryReadsBack, IsUnformed, respelled}
use Rattle.kdl.proofs.Finding.DocumentLookups.{found_there}
use Rattle.kdl.proofs.Finding.ListLookups.{Splice, listed, splice_before, splice_for, splice_push, splice_set, splice_without}
use Rattle.kdl.proofs.Trees.{document_tree_out, document_tree_roll, node_of, node_tree_out, node_tree_roll}

-- entries

AllRead : List KdlEntry → Type 0
AllRead es = All EntryReadsBack es

unmapped : (es : List KdlEntry) → All EntryReads (map entry_tree es) → AllRead es
unfolding AllRead
unmapped [] c = All-nil EntryReadsBack
unmapped (e ∷ es) c = All-cons EntryReadsBack e es (c zero (entry_tree e) (omega arith)) (unmapped es (λ k d h. c (suc k) d (omega arith)))

-- a node with other entries, which read back where its own do
exchanged : (n : KdlNode) (v : Vec KdlEntry Global) → (AllRead (entries_of n) → AllRead v.items) → ReadsAs n (with_entries n v)
unfolding AllRead
exchanged n v f P x =
    let x' : NodeReads P (node_of (out-KdlNode n)) = subst (λ (y : Node). NodeReads P y) (node_tree_out n) x in
    let c = All-map EntryReads entry_tree v.items (f (unmapped (entries_of n) (composing.entries_read x'))) in
    subst (λ (y : Node). NodeReads P y) (sym (node_tree_roll (record (out-KdlNode n) { entries = v }))) (composing.with_entries (map entry_tree v.items) x' c)

pub entries_exchanged : (n : KdlNode) (v : Vec KdlEntry Global) → (All EntryReadsBack (entries_of n) → All EntryReadsBack v.items) → ReadsAs n (with_entries n v)
unfolding AllRead
entries_exchanged n v f = exchanged n v f

-- an entry without form
pub unformed_reads : (e : KdlEntry) → IsUnformed (entry_tree e) → EntryReadsBack e
unformed_reads e u = formless_reads (entry_tree e) (record { plain = u.plain; key = name_scalars e.name; ty = name_scalars e.ty; value = u.value })

left_read : (es fs : List KdlEntry) → AllRead (es ++ fs) → AllRead es
unfolding AllRead
left_read [] fs c = All-nil EntryReadsBack
left_read (e ∷ es) fs c = All-cons EntryReadsBack e es (All-head EntryReadsBack e (es ++ fs) c) (left_read es fs (All-tail EntryReadsBack e (es ++ fs) c))

right_read : (es fs : List KdlEntry) → AllRead (es ++ fs) → AllRead fs
unfolding AllRead
right_read [] fs c = c
right_read (e ∷ es) fs c = right_read es fs (All-tail EntryReadsBack e (es ++ fs) c)

-- entries in place of others, which read back where those do
spliced : (old new es fs : List KdlEntry) → Splice old new es fs → (AllRead old → AllRead new) → AllRead es → AllRead fs
unfolding AllRead
spliced old new es fs s f c =
    let all : AllRead (s.before ++ (old ++ s.after)) = subst AllRead s.was c in
    let rest = right_read s.before (old ++ s.after) all in
    subst AllRead (sym s.is)
    (All-append EntryReadsBack s.before (new ++ s.after) (left_read s.before (old ++ s.after) all) (All-append EntryReadsBack new s.after (f (left_read old s.after rest)) (right_read old s.after rest)))

one_read : (e : KdlEntry) → EntryReadsBack e → AllRead (e ∷ [])
unfolding AllRead
one_read e x = All-cons EntryReadsBack e [] x (All-nil EntryReadsBack)

pub push_reads : {T E : Type 0} (r : Result T E) (e : KdlEntry) (n : KdlNode) (v : Vec KdlEntry Global) → v.items ≡ (if is_ok r then entries_of n ++ (e ∷ []) else entries_of n) → EntryReadsBack e → ReadsAs n (with_entries n v)
push_reads (Ok a) e n v h x = exchanged n v (spliced [] (e ∷ []) (entries_of n) v.items (splice_push (entries_of n) v.items e h) (λ c. one_read e x))
push_reads (Err a) e n v h x = exchanged n v (λ c. subst AllRead (sym h) c)

-- an insertion
inserted_read : (key : NodeKey) (e : KdlEntry) (es fs : List KdlEntry) → fs ≡ inserted key e es → EntryReadsBack e → AllRead es → AllRead fs
inserted_read (Key k) e es fs h x c = spliced (listed (there (place_of (Key k) es) es)) (e ∷ []) es fs (splice_for es fs (place_of (Key k) es) e h) (λ c. one_read e x) c
inserted_read (Index i) e es fs h x c = spliced [] (e ∷ []) es fs (splice_before es fs (place_of (Index i) es) e h) (λ c. one_read e x) c

goes_in : (key : NodeKey) (e : KdlEntry) (es fs : List KdlEntry) → IsInserted key e es fs → EntryReads (under (sought key) (entry_tree e)) → AllRead es → AllRead fs
goes_in key e es fs d x c = inserted_read key d.entry es fs d.items (subst EntryReads (sym d.tree) x) c

pub insert_reads : {T E : Type 0} (r : Result T E) (key : NodeKey) (e : KdlEntry) (n : KdlNode) (v : Vec KdlEntry Global) → OnOk r (IsInserted key e (entries_of n) v.items) → OnErr r (v.items ≡ entries_of n)
    → EntryReads (under (sought key) (entry_tree e)) → ReadsAs n (with_entries n v)
insert_reads (Ok a) key e n v d h x = exchanged n v (λ c. goes_in key e (entries_of n) v.items d x c)
insert_reads (Err a) key e n v d h x = exchanged n v (λ c. subst AllRead (sym h) c)

-- the name of a key and that of an entry in memory are of scalar values
under_scalars : (key : NodeKey) (e : KdlEntry) → IfSome (under (sought key) (entry_tree e)).name (λ (i : Identifier). list_all is_scalar i.value ≡ true)
under_scalars (Key k) e = go e.name
  where
    go : (o : Option KdlIdentifier) → IfSome (Some (Rattle.std.specs.Prelude.unwrap_or (option_map identifier_tree o) (identifier_tree k))) (λ (i : Identifier). list_all is_scalar i.value ≡ true)
    go None = text_scalars k.value
    go (Some i) = text_scalars i.value
under_scalars (Index i) e = name_scalars e.name

under_type : (key : NodeKey) (e : KdlEntry) → IfSome (under (sought key) (entry_tree e)).ty (λ (i : Identifier). list_all is_scalar i.value ≡ true)
under_type (Key k) e = name_scalars e.ty
under_type (Index i) e = name_scalars e.ty

pub under_reads : (key : NodeKey) (e : KdlEntry) → IsUnformed (under (sought key) (entry_tree e)) → EntryReads (under (sought key) (entry_tree e))
under_reads key e u = formless_reads (under (sought key) (entry_tree e)) (record { plain = u.plain; key = under_scalars key e; ty = under_type key e; value = u.value })

-- entries taken out, kept, sorted
none_read : AllRead []
unfolding AllRead
none_read = All-nil EntryReadsBack

pub remove_reads : (key : NodeKey) (n : KdlNode) (v : Vec KdlEntry Global) → v.items ≡ removed key (entries_of n) → ReadsAs n (with_entries n v)
remove_reads key n v h =
    let o = removed_place key (entries_of n) in
    exchanged n v (spliced (listed (there o (entries_of n))) [] (entries_of n) v.items (splice_without (entries_of n) v.items o h) (λ c. none_read))

pub clear_reads : (n : KdlNode) (v : Vec KdlEntry Global) → v.items ≡ [] → ReadsAs n (with_entries n v)
clear_reads n v h = exchanged n v (λ c. subst AllRead (sym h) none_read)

kept_read : (bs : List Bool) (es : List KdlEntry) → AllRead es → AllRead (items_where_true bs es)
unfolding AllRead
kept_read [] es c = All-nil EntryReadsBack
kept_read (b ∷ bs) [] c = All-nil EntryReadsBack
kept_read (true ∷ bs) (e ∷ es) c = All-cons EntryReadsBack e (items_where_true bs es) (c zero e (omega arith)) (kept_read bs es (λ k d h. c (suc k) d (omega arith)))
kept_read (false ∷ bs) (e ∷ es) c = kept_read bs es (λ k d h. c (suc k) d (omega arith))

pub retain_reads : {F : Type 0} (R : F → KdlEntry → Bool → F → Type 0) (f : F) (n : KdlNode) (v : Vec KdlEntry Global) → IsFiltered R f (entries_of n) v.items → ReadsAs n (with_entries n v)
retain_reads R f n v h = exchanged n v (λ c. subst AllRead (sym h.4) (kept_read h.0 (entries_of n) c))

pub sort_reads : (n : KdlNode) (v : Vec KdlEntry Global) → IsPermutation (entries_of n) v.items → ReadsAs n (with_entries n v)
unfolding AllRead
sort_reads n v h = exchanged n v (λ c. All-permutation EntryReadsBack (entries_of n) v.items h c)

-- an entry that is written through its loan
set_reads : (es : List KdlEntry) (i : ℕ) (e f : KdlEntry) → slice_get es i ≡ Some e → (EntryReadsBack e → EntryReadsBack f) → AllRead es → AllRead (set es i f)
unfolding AllRead
set_reads es i e f h g = spliced (e ∷ []) (f ∷ []) es (set es i f) (splice_set es (set es i f) i e f h refl) (λ c. one_read f (g (c zero e (omega arith))))

pub entry_there_reads : (o : Option ℕ) (n : KdlNode) (e f : KdlEntry) → option_and_then (λ i. slice_get (entries_of n) i) o ≡ Some e → (EntryReadsBack e → EntryReadsBack f) → ReadsAs n (with_entry_there o n f)
entry_there_reads None n e f h g = absurd (cc)
entry_there_reads (Some i) n e f h g = exchanged n (with_item (out-KdlNode n).entries i f) (set_reads (entries_of n) i e f h g)

module _ {M : Type 0} (now : M → KdlEntry) (key : NodeKey) (n : KdlNode) where
  pub entry_loan_reads : (o : Option M) → option_map now o ≡ found_entry key n → IfSome o (λ (e : M). (f : KdlEntry) → (EntryReadsBack (now e) → EntryReadsBack f) → ReadsAs n (with_found_entry key n f))
  entry_loan_reads None h = tt
  entry_loan_reads (Some e) h = λ f g. entry_there_reads (key_place key n) n (now e) f (sym h) g

  pub entry_loan_unformed : (o : Option M) → option_map now o ≡ found_entry key n → IfSome o (λ (e : M). (f : KdlEntry) → IsUnformed (entry_tree f) → ReadsAs n (with_found_entry key n f))
  entry_loan_unformed None h = tt
  entry_loan_unformed (Some e) h = λ f u. entry_there_reads (key_place key n) n (now e) f (sym h) (λ x. unformed_reads f u)

  pub entry_loan_respelled : (o : Option M) → option_map now o ≡ found_entry key n
      → IfSome o (λ (e : M). (f : KdlEntry) (v : Value) → IsWellFormed v → entry_tree f ≡ respelled v (entry_tree (now e)) → ReadsAs n (with_found_entry key n f))
  entry_loan_respelled None h = tt
  entry_loan_respelled (Some e) h = λ f v ok s. entry_there_reads (key_place key n) n (now e) f (sym h) (λ x. subst EntryReads (sym s) (value_reads (entry_tree (now e)) v x ok))

-- documents
nodes_set : {P : Rests} (ns : List KdlNode) (i : ℕ) (n m : KdlNode) → slice_get ns i ≡ Some n → ReadsAs n m → NodesRead P (nodes_tree ns) → NodesRead P (nodes_tree (set ns i m))
nodes_set [] i n m h f x = x
nodes_set {P = P} (y ∷ []) zero n m h f (last_node x) = let same : y ≡ n = cc in last_node (f P (subst (λ (z : KdlNode). NodeReads P (node_tree z)) same x))
nodes_set (y ∷ []) (suc i) n m h f x = x
nodes_set (y ∷ z ∷ ns) zero n m h f (next_node x xs) = let same : y ≡ n = cc in next_node (f Anything (subst (λ (z : KdlNode). NodeReads Anything (node_tree z)) same x)) xs
nodes_set (y ∷ z ∷ ns) (suc i) n m h f (next_node x xs) = node_before x (nodes_set (z ∷ ns) i n m h f xs)

content_set : {P : Rests} {l t : Text} (ns : List KdlNode) (i : ℕ) (n m : KdlNode) → slice_get ns i ≡ Some n → ReadsAs n m → ContentReads P l t (nodes_tree ns) → ContentReads P l t (nodes_tree (set ns i m))
content_set [] i n m h f c = absurd (cc)
content_set (y ∷ ns) i n m h f (content_nodes a x g) = content_with (nodes_tree (set (y ∷ ns) i m)) a (nodes_set (y ∷ ns) i n m h f x) g

-- a whole text whose content is another
pub whole_as : (o : Option DocumentFormat) (at to : SourceSpan) (ns ms : Nodes) → ((l : Text) → ContentReads TextEnd l (trailing_text o) ns → ContentReads TextEnd l (trailing_text o) ms) → DocumentReads (document o at ns) → DocumentReads (document o to ms)
whole_as o at to ns ms f (DocumentReads.no_bom c) = DocumentReads.no_bom (f (leading_text o) c)
whole_as o at to ns ms f (DocumentReads.after_bom {leading = l} e c) = DocumentReads.after_bom e (f l c)

block_set : (o : Option DocumentFormat) (at : SourceSpan) (ns : List KdlNode) (i : ℕ) (n m : KdlNode) → slice_get ns i ≡ Some n → ReadsAs n m → BlockReads (document o at (nodes_tree ns)) → BlockReads (document o at (nodes_tree (set ns i m)))
block_set o at ns i n m h f (block c) = block (content_set ns i n m h f c)

-- a document whose node at i is exchanged
pub node_set_reads : (d : KdlDocument) (i : ℕ) (n m : KdlNode) → slice_get (nodes_of d) i ≡ Some n → ReadsAs n m → (DocumentReadsBack d → DocumentReadsBack (with_node d i m)) × (BlockReadsBack d → BlockReadsBack (with_node d i m))
node_set_reads d i n m h f =
    let X = out-KdlDocument d in
    let new = sym (document_tree_roll (record X { nodes = with_item X.nodes i m })) in (
      λ x. subst DocumentReads new (whole_as (option_map document_format_tree X.format) X.span X.span _ _ (λ l c. content_set X.nodes.items i n m h f c) (subst DocumentReads (document_tree_out d) x)),
      λ x. subst BlockReads new (block_set (option_map document_format_tree X.format) X.span X.nodes.items i n m h f (subst BlockReads (document_tree_out d) x)),
    )

node_there_reads : (o : Option ℕ) (d : KdlDocument) (n m : KdlNode) → option_and_then (λ i. slice_get (nodes_of d) i) o ≡ Some n → ReadsAs n m → (DocumentReadsBack d → DocumentReadsBack (with_node_there o d m)) × (BlockReadsBack d → BlockReadsBack (with_node_there o d m))
node_there_reads None d n m h f = absurd (cc)
node_there_reads (Some i) d n m h f = node_set_reads d i n m h f

-- a document whose first node of a name is exchanged
pub named_reads : (s : List ℕ) (d : KdlDocument) (n m : KdlNode) → Some n ≡ node_named s d → ReadsAs n m → (DocumentReadsBack d → DocumentReadsBack (with_node_named s d m)) × (BlockReadsBack d → BlockReadsBack (with_node_named s d m))
named_reads s d n m h f = node_there_reads (node_place s d) d n m (sym (found_there (is_node_named s) (nodes_of d)) ∙ sym h) f

-- a node whose block is exchanged
pub block_exchanged : (n : KdlNode) (d e : KdlDocument) → (out-KdlNode n).children ≡ Some d → (BlockReadsBack d → BlockReadsBack e) → ReadsAs n (with_children n (Some e))
block_exchanged n d e h f P x =
    let X = out-KdlNode n in
    let x' : NodeReads P (node_of X) = subst (λ (y : Node). NodeReads P y) (node_tree_out n) x in
    let own = subst (λ (o : Option KdlDocument). NodeReads P (node (head_tree X) (children_of (option_map document_tree o)))) h x' in
    subst (λ (y : Node). NodeReads P y) (sym (node_tree_roll (record X { children = Some e }))) (composing.with_block (document_tree e) own (f (composing.block_reads own)))

-- what is read, and what is new

pub new_document_reads : (d : KdlDocument) → document_tree d ≡ new_document → DocumentReadsBack d
new_document_reads d e = subst DocumentReads (sym e) (DocumentReads.no_bom (one_text (λ r p. no_gap)))

pub new_block_reads : (d : KdlDocument) → document_tree d ≡ new_document → BlockReadsBack d
new_block_reads d e = subst BlockReads (sym e) (block (one_text (λ r p. no_gap)))

pub new_node_ends : (n : KdlNode) (name : Identifier) → node_tree n ≡ new_node name → IsIdentifierText (print_identifier name) name.value → NodeEnds n
new_node_ends n name e i = subst (λ (x : Node). NodeReads Anything x) (sym e) (new_reads name no_span i)

unspelled_name : (name : Identifier) (o : Option Text) → o ≡ None → list_all is_scalar name.value ≡ true → IsIdentifierText (print_identifier (record name { repr = o })) name.value
unspelled_name name None e ok = formless_reads_back.0 name.value ok
unspelled_name name (Some r) e ok = absurd (cc)

pub unspelled_node_ends : (n : KdlNode) (name : KdlIdentifier) → node_tree n ≡ new_node (identifier_tree name) → (identifier_tree name).repr ≡ None → NodeEnds n
unspelled_node_ends n name e h = new_node_ends n (identifier_tree name) e (unspelled_name (identifier_tree name) (identifier_tree name).repr h (text_scalars name.value))

module _ {E : Type 0} (name : KdlIdentifier) where
  pub unspelled_new_ends : (r : Result KdlNode E) → IfOk r (λ (n : KdlNode). node_tree n ≡ new_node (identifier_tree name)) → IfOk r (λ (n : KdlNode). (identifier_tree name).repr ≡ None → NodeEnds n)
  unspelled_new_ends r e = IfOk-weaker r _ _ (λ n x h. unspelled_node_ends n name x h) e

  pub spelled_new_ends : (r : Result KdlNode E) → IfOk r (λ (n : KdlNode). node_tree n ≡ new_node (identifier_tree name))
      → IfOk r (λ (n : KdlNode). IsIdentifierText (print_identifier (identifier_tree name)) (identifier_tree name).value → NodeEnds n)
  spelled_new_ends r e = IfOk-weaker r _ _ (λ n x i. new_node_ends n (identifier_tree name) x i) e

-- what reads back

pub document_derived : (d : KdlDocument) → DocumentReadsBack d → IsDocument (print_document (document_tree d) 0) (document_data (document_tree d))
document_derived d x = reads_derived (document_tree d) x

pub node_derived_alone : (n : KdlNode) → NodeReadsBack n → IsDocument (print_node (node_tree n) 0) (data'.first (node_data (node_tree n)) data'.none)
node_derived_alone n x = node_derived (node_tree n) x

last_is_end : (t : Text) {n : Node} → NodeReads (last_rests t TextEnd) n → NodeReads TextEnd n
last_is_end [] x = x
last_is_end (c ∷ t) x = composing.ends_before TextEnd x

each_of : (t : Text) (ns : List KdlNode) → NodesRead (last_rests t TextEnd) (nodes_tree ns) → All NodeReadsBack ns
each_of t [] x = All-nil NodeReadsBack
each_of t (n ∷ []) (last_node x) = All-cons NodeReadsBack n [] (last_is_end t x) (All-nil NodeReadsBack)
each_of t (n ∷ m ∷ ns) (next_node x xs) = All-cons NodeReadsBack n (m ∷ ns) (composing.ends_before TextEnd x) (each_of t (m ∷ ns) xs)

content_nodes_read : {l : Text} (t : Text) (ns : List KdlNode) → ContentReads TextEnd l t (nodes_tree ns) → All NodeReadsBack ns
content_nodes_read t [] c = All-nil NodeReadsBack
content_nodes_read t (n ∷ ns) (content_nodes a x g) = each_of t (n ∷ ns) x

pub nodes_read_back : (d : KdlDocument) → DocumentReadsBack d → All NodeReadsBack (nodes_of d)
nodes_read_back d x = go (option_map document_format_tree (out-KdlDocument d).format) (out-KdlDocument d).span (nodes_of d) (subst DocumentReads (document_tree_out d) x)
  where
    go : (o : Option DocumentFormat) (at : SourceSpan) (ns : List KdlNode) → DocumentReads (document o at (nodes_tree ns)) → All NodeReadsBack ns
    go o at ns (DocumentReads.no_bom c) = content_nodes_read (trailing_text o) ns c
    go o at ns (DocumentReads.after_bom e c) = content_nodes_read (trailing_text o) ns c

pub ended_reads : (n : KdlNode) → NodeEnds n → NodeReadsBack n
ended_reads n x = composing.ends_before TextEnd x

pub block_reads_back : (n : KdlNode) (d : KdlDocument) → NodeReadsBack n → (out-KdlNode n).children ≡ Some d → BlockReadsBack d
block_reads_back n d x h =
    let X = out-KdlNode n in
    let x' : NodeReads TextEnd (node_of X) = subst (λ (y : Node). NodeReads TextEnd y) (node_tree_out n) x in
    composing.block_reads (subst (λ (o : Option KdlDocument). NodeReads TextEnd (node (head_tree X) (children_of (option_map document_tree o)))) h x')

pub other_value_reads : (e f : KdlEntry) (v : Value) → EntryReadsBack e → IsWellFormed v → entry_tree f ≡ respelled v (entry_tree e) → EntryReadsBack f
other_value_reads e f v x ok h = subst EntryReads (sym h) (value_reads (entry_tree e) v x ok)
