-- Nodes added to others: their trees, what is printed, and what is said.
use Rattle.kdl.proofs.Common.{◌≡◌, ℕ, zero, suc, ◌+◌, ◌<◌, ◌≤◌, List, [], ◌∷◌, ◌++◌, length, map, take, drop, set, ap, ◌∙◌, sym, refl, append_assoc, arith, Option, Some, option_map, slice_get, get_or, add-one, Vec, Global, append-nil, map-append, take-map, drop-map, get_or_from_slice_get, slice_get-get_or, slice_get-map, with_item, insert, remove, Text, print_node, print_nodes, leading_text, trailing_text, DocumentFormat, Node, Nodes, document_data, listed_nodes, node_data, nodes_data, document_format_tree, KdlNodeFormat, with_nodes, nodes_of, EndsAs, EndsExactly, PutAfter, end_with, IsPut, LeadsWith, WithNewlines, newlines, text_from, text_up_to, texts_around, trees, document_prints, document_says, node_prints, node_says, node_tree, nodes_tree, KdlDocument, out-KdlDocument, out-roll-KdlDocument, roll-KdlDocument, KdlNode}
use Rattle.std.proofs.lemmas.List.Edits.{get_or-insert_at, get_or-insert_below}
use Rattle.kdl_grammar.specs.Data as data'
use Rattle.kdl.specs.Nodes.{EndedBefore, PrintsPut, PrintsWithout, said_with, said_without}
use Rattle.kdl.specs.declared.ends.Rest.TheVariants as Rest
use Rattle.kdl.proofs.Putting.NodeEnds.{newlines_printed, newlines_said}
use Rattle.kdl.proofs.Printing.PrintedParts.{document_printed, print_nodes-join}
use Rattle.kdl.proofs.Trees.{document_tree_out, nodes_of-append}

-- what is printed of nodes at depth 0
abbrev text : List Node → Text
text ns = print_nodes (listed_nodes ns) 0

seam_first : (l n p j r t : Text) → (l ++ n) ++ ((p ++ j) ++ r) ++ t ≡ ((((l ++ []) ++ n) ++ p) ++ j) ++ (r ++ t)
seam_first l n p j r t = simp (append_assoc, append-nil)

seam_after : (l u n p j r t : Text) → l ++ ((u ++ n) ++ ((p ++ j) ++ r)) ++ t ≡ ((((l ++ u) ++ n) ++ p) ++ j) ++ (r ++ t)
seam_after l u n p j r t = simp append_assoc

-- a node put after the one at i
put_printed : (i : ℕ) (ns : List Node) (old new put : Node) (n t : Text) → slice_get ns i ≡ Some old → print_node new 0 ≡ print_node old 0 ++ n → print_node put 0 ≡ t
    → text (insert (set ns i new) (suc i) put) ≡ (text (take (suc i) ns) ++ n) ++ (t ++ text (drop (suc i) ns))
put_printed i [] old new put n t h p q = absurd (cc)
put_printed zero (x ∷ xs) old new put n t h p q =
    let e : x ≡ old = cc in
    rw (p, q, ← e) (first (print_node x 0) n t (text xs))
  where
    first : (x n t r : Text) → (x ++ n) ++ (t ++ r) ≡ ((x ++ []) ++ n) ++ (t ++ r)
    first x n t r = simp append-nil
put_printed (suc i) (x ∷ xs) old new put n t h p q =
    rw (put_printed i xs old new put n t h p q) (later (print_node x 0) (text (take (suc i) xs)) n (t ++ text (drop (suc i) xs)))
  where
    later : (x u n r : Text) → x ++ ((u ++ n) ++ r) ≡ ((x ++ u) ++ n) ++ r
    later x u n r = simp append_assoc

said_first : (x : data'.Node) (ns : List Node) → said_with 0 x (nodes_data (listed_nodes ns)) ≡ data'.first x (nodes_data (listed_nodes ns))
said_first x [] = refl
said_first x (n ∷ ns) = refl

put_said : (i : ℕ) (ns : List Node) (old new put : Node) → slice_get ns i ≡ Some old → node_data new ≡ node_data old
    → nodes_data (listed_nodes (insert (set ns i new) (suc i) put)) ≡ said_with (suc i) (node_data put) (nodes_data (listed_nodes ns))
put_said i [] old new put h p = absurd (cc)
put_said zero (x ∷ xs) old new put h p = let e : x ≡ old = cc in rw (p, ← e) (ap (data'.first (node_data x)) (sym (said_first (node_data put) xs)))
put_said (suc i) (x ∷ xs) old new put h p = ap (data'.first (node_data x)) (put_said i xs old new put h p)

-- the texts around the nodes
pub leads_printed : (k : ℕ) (o p : Option DocumentFormat) → LeadsWith k o p → leading_text p ≡ leading_text o ++ newlines k
leads_printed zero o p w = ap leading_text w ∙ sym (append-nil (leading_text o))
leads_printed (suc k) o p (f, a, b) = rw (b, a) refl

pub leads_trailing : (k : ℕ) (o p : Option DocumentFormat) → LeadsWith k o p → trailing_text p ≡ trailing_text o
leads_trailing zero o p w = ap trailing_text w
leads_trailing (suc k) o p (f, a, b) = rw (b, a) refl

-- what is printed with a node put at i
printed : (i k j : ℕ) (n put : Node) (o p : Option DocumentFormat) (ns ms : List Node) → EndedBefore i k o ns p ms → WithNewlines j n put
    → leading_text p ++ text (insert ms i put) ++ trailing_text p
    ≡ leading_text o ++ text (take i ns) ++ newlines k ++ print_node n 0 ++ newlines j ++ (text (drop i ns) ++ trailing_text o)
printed zero k j n put o p ns ms (e, l) w =
    rw (e, leads_printed k o p l, leads_trailing k o p l, newlines_printed j n put w) (seam_first (leading_text o) (newlines k) (print_node n 0) (newlines j) (text ns) (trailing_text o))
printed (suc i) k j n put o p ns ms (e, x) w =
    rw (x.nodes, e, put_printed i ns x.old x.new put (newlines k) _ x.is (newlines_printed k x.old x.new x.ends) (newlines_printed j n put w))
    (seam_after (leading_text o) (text (take (suc i) ns)) (newlines k) (print_node n 0) (newlines j) (text (drop (suc i) ns)) (trailing_text o))

pub put_printed_as : (i : ℕ) (n : KdlNode) (d e : KdlDocument) (p : IsPut i (node_tree n) d e)
    → document_prints e ≡ text_up_to i d 0 ++ newlines p.k ++ node_prints n ++ newlines p.j ++ text_from i d 0
put_printed_as i n d e p =
    document_printed e 0 ∙ ap (λ z. leading_text (texts_around e) ++ text z ++ trailing_text (texts_around e)) p.nodes
    ∙ printed i p.k p.j (node_tree n) p.put (texts_around d) (texts_around e) (trees d) p.ended p.before p.ends

pub put_prints : (i : ℕ) (n : KdlNode) (d e : KdlDocument) → IsPut i (node_tree n) d e → PrintsPut i n d e
put_prints i n d e p = let few = p.few in (p.k, p.j, few.0, few.1, put_printed_as i n d e p)

said : (i k j : ℕ) (n put : Node) (o p : Option DocumentFormat) (ns ms : List Node) → EndedBefore i k o ns p ms → WithNewlines j n put
    → nodes_data (listed_nodes (insert ms i put)) ≡ said_with i (node_data n) (nodes_data (listed_nodes ns))
said zero k j n put o p ns ms (e, l) w = rw (e, newlines_said j n put w) (sym (said_first (node_data n) ns))
said (suc i) k j n put o p ns ms (e, x) w =
    rw (x.nodes) (put_said i ns x.old x.new put x.is (newlines_said k x.old x.new x.ends)) ∙ ap (λ z. said_with (suc i) z (nodes_data (listed_nodes ns))) (newlines_said j n put w)

says_of : (d : KdlDocument) → document_says d ≡ nodes_data (listed_nodes (trees d))
says_of d = ap document_data (document_tree_out d)

pub put_says : (i : ℕ) (n : KdlNode) (d e : KdlDocument) → IsPut i (node_tree n) d e → document_says e ≡ said_with i (node_says n) (document_says d)
put_says i n d e p =
    says_of e ∙ ap (λ z. nodes_data (listed_nodes z)) p.nodes ∙ said i p.k p.j (node_tree n) p.put (texts_around d) (texts_around e) (trees d) p.ended p.before p.ends
    ∙ ap (said_with i (node_says n)) (sym (says_of d))

-- lists in memory and their trees
pub insert_trees : (xs : List KdlNode) (i : ℕ) (y : KdlNode) → map node_tree (insert xs i y) ≡ insert (map node_tree xs) i (node_tree y)
insert_trees xs i y =
    map-append node_tree (take i xs) (y ∷ drop i xs)
    ∙ ap (λ z. z ++ (node_tree y ∷ map node_tree (drop i xs))) (sym (take-map node_tree i xs))
    ∙ ap (λ z. take i (map node_tree xs) ++ (node_tree y ∷ z)) (sym (drop-map node_tree i xs))

pub remove_trees : (xs : List KdlNode) (i : ℕ) → map node_tree (remove xs i) ≡ remove (map node_tree xs) i
remove_trees xs i =
    map-append node_tree (take i xs) (drop (suc i) xs)
    ∙ ap (λ z. z ++ map node_tree (drop (suc i) xs)) (sym (take-map node_tree i xs))
    ∙ ap (λ z. take i (map node_tree xs) ++ z) (sym (drop-map node_tree (suc i) xs))

-- a document with other nodes
pub nodes_with : (d : KdlDocument) (v : Vec KdlNode Global) → nodes_of (with_nodes d v) ≡ v.items
nodes_with d v = ap (λ x. x.nodes.items) (out-roll-KdlDocument (record (out-KdlDocument d) { nodes = v }))

pub with_nodes_own : (d : KdlDocument) (v : Vec KdlNode Global) → with_nodes d v ≡ with_nodes d (out-KdlDocument (with_nodes d v)).nodes
with_nodes_own d v = ap (with_nodes d) (sym (ap (λ x. x.nodes) (out-roll-KdlDocument (record (out-KdlDocument d) { nodes = v }))))

with_nodes_twice : (d : KdlDocument) (u v : Vec KdlNode Global) → with_nodes (with_nodes d u) v ≡ with_nodes d v
with_nodes_twice d u v = ap (λ x. roll-KdlDocument (record x { nodes = v })) (out-roll-KdlDocument (record (out-KdlDocument d) { nodes = u }))

pub texts_kept : (d e : KdlDocument) → e ≡ with_nodes d (out-KdlDocument e).nodes → texts_around e ≡ texts_around d
texts_kept d e r = ap texts_around r ∙ ap (λ x. option_map document_format_tree x.format) (out-roll-KdlDocument (record (out-KdlDocument d) { nodes = (out-KdlDocument e).nodes }))

pub span_kept : (d e : KdlDocument) → e ≡ with_nodes d (out-KdlDocument e).nodes → (out-KdlDocument e).span ≡ (out-KdlDocument d).span
span_kept d e r = ap (λ (z : KdlDocument). (out-KdlDocument z).span) r ∙ ap (λ x. x.span) (out-roll-KdlDocument (record (out-KdlDocument d) { nodes = (out-KdlDocument e).nodes }))

-- a node taken out
taken_printed : (i : ℕ) (ns : List Node) (x : Node) (depth : ℕ) → slice_get ns i ≡ Some x
    → print_nodes (listed_nodes ns) depth ≡ print_nodes (listed_nodes (take i ns)) depth ++ (print_node x depth ++ print_nodes (listed_nodes (drop (suc i) ns)) depth)
taken_printed i [] x depth h = absurd (cc)
taken_printed zero (y ∷ ys) x depth h = let e : y ≡ x = cc in ap (λ (z : Node). print_node z depth ++ print_nodes (listed_nodes ys) depth) e
taken_printed (suc i) (y ∷ ys) x depth h = rw (taken_printed i ys x depth h) (sym (append_assoc (print_node y depth) (print_nodes (listed_nodes (take i ys)) depth) _))

left_printed : (ns ms : List Node) (depth : ℕ) → print_nodes (listed_nodes (ns ++ ms)) depth ≡ print_nodes (listed_nodes ns) depth ++ print_nodes (listed_nodes ms) depth
left_printed ns ms depth = ap (λ (z : Nodes). print_nodes z depth) (nodes_of-append ns ms) ∙ print_nodes-join (listed_nodes ns) (listed_nodes ms) depth

around : (l a x b t : Text) → l ++ (a ++ (x ++ b)) ++ t ≡ ((l ++ a) ++ x) ++ (b ++ t)
around l a x b t = simp append_assoc

without : (l a b t : Text) → l ++ (a ++ b) ++ t ≡ (l ++ a) ++ (b ++ t)
without l a b t = simp append_assoc

pub taken_prints : (i : ℕ) (n : KdlNode) (d e : KdlDocument) → slice_get (nodes_of d) i ≡ Some n → nodes_of e ≡ remove (nodes_of d) i → e ≡ with_nodes d (out-KdlDocument e).nodes
    → PrintsWithout i n d e
taken_prints i n d e h k r depth =
    let l = leading_text (texts_around d) in
    let t = trailing_text (texts_around d) in
    let there : slice_get (trees d) i ≡ Some (node_tree n) = slice_get-map node_tree (nodes_of d) i ∙ ap (option_map node_tree) h in
    let before = print_nodes (listed_nodes (take i (trees d))) depth in
    let following = print_nodes (listed_nodes (drop (suc i) (trees d))) depth in
    rw (add-one i) (
      document_printed d depth ∙ ap (λ (z : Text). l ++ z ++ t) (taken_printed i (trees d) (node_tree n) depth there) ∙ around l before (print_node (node_tree n) depth) following t,
      document_printed e depth ∙ ap (λ (o : Option DocumentFormat). leading_text o ++ print_nodes (nodes_tree (nodes_of e)) depth ++ trailing_text o) (texts_kept d e r)
          ∙ ap (λ (z : List Node). l ++ print_nodes (listed_nodes z) depth ++ t) (ap (map node_tree) k ∙ remove_trees (nodes_of d) i)
          ∙ ap (λ (z : Text). l ++ z ++ t) (left_printed (take i (trees d)) (drop (suc i) (trees d)) depth) ∙ without l before following t,
    )

taken_said : (i : ℕ) (ns : List Node) → nodes_data (listed_nodes (remove ns i)) ≡ said_without i (nodes_data (listed_nodes ns))
taken_said zero [] = refl
taken_said (suc i) [] = refl
taken_said zero (y ∷ ys) = refl
taken_said (suc i) (y ∷ ys) = ap (data'.first (node_data y)) (taken_said i ys)

pub taken_says : (i : ℕ) (d e : KdlDocument) → nodes_of e ≡ remove (nodes_of d) i → document_says e ≡ said_without i (document_says d)
taken_says i d e k =
    says_of e ∙ ap (λ (z : List Node). nodes_data (listed_nodes z)) (ap (map node_tree) k ∙ remove_trees (nodes_of d) i) ∙ taken_said i (trees d) ∙ ap (said_without i) (sym (says_of d))

-- writes at a place of a list that has one more
set_inserted : (xs : List KdlNode) (i : ℕ) (n y : KdlNode) → i ≤ length xs → set (insert xs i n) i y ≡ insert xs i y
set_inserted [] zero n y h = refl
set_inserted [] (suc i) n y h = absurd (omega arith)
set_inserted (x ∷ xs) zero n y h = refl
set_inserted (x ∷ xs) (suc i) n y h = ap (λ (z : List KdlNode). x ∷ z) (set_inserted xs i n y (omega arith))

set_below : (xs : List KdlNode) (i : ℕ) (n y : KdlNode) → i < length xs → set (insert xs (suc i) n) i y ≡ insert (set xs i y) (suc i) n
set_below [] i n y h = absurd (omega arith)
set_below (x ∷ xs) zero n y h = refl
set_below (x ∷ xs) (suc i) n y h = ap (λ (z : List KdlNode). x ∷ z) (set_below xs i n y (omega arith))

-- the node that was put in, with its format
put_set : (xs zs : List KdlNode) (i : ℕ) (n m e : KdlNode) (own : Option KdlNodeFormat) → i ≤ length xs → zs ≡ insert xs i n → get_or zs i m ≡ m → e ≡ end_with own m
    → set zs i e ≡ insert xs i (end_with own n)
put_set xs zs i n m e own h z g w =
    let same : m ≡ n = sym g ∙ ap (λ (l : List KdlNode). get_or l i m) z ∙ get_or-insert_at xs i n m h in
    ap (λ (l : List KdlNode). set l i e) z ∙ set_inserted xs i n e h ∙ ap (insert xs i) (w ∙ ap (end_with own) same)

pub put_at : (d : KdlDocument) (v : Vec KdlNode Global) (i : ℕ) (n m e : KdlNode) (own : Option KdlNodeFormat) → i ≤ length (nodes_of d) → v.items ≡ insert (nodes_of d) i n
    → get_or (nodes_of (with_nodes d v)) i m ≡ m → e ≡ end_with own m
    → nodes_of (with_nodes (with_nodes d v) (with_item (out-KdlDocument (with_nodes d v)).nodes i e)) ≡ insert (nodes_of d) i (end_with own n)
put_at d v i n m e own h z g w =
    nodes_with (with_nodes d v) (with_item (out-KdlDocument (with_nodes d v)).nodes i e) ∙ put_set (nodes_of d) (nodes_of (with_nodes d v)) i n m e own h (nodes_with d v ∙ z) g w

-- the node before it, with its format
pub after_put : (d p : KdlDocument) (i : ℕ) (n b m x : KdlNode) (o : Option KdlNodeFormat) → i < length (nodes_of d) → get_or (nodes_of d) i b ≡ b
    → EndsExactly Rest.Text b o → EndsAs Rest.Text b (end_with o b) → nodes_of p ≡ insert (nodes_of d) (i + 1) n → p ≡ with_nodes d (out-KdlDocument p).nodes
    → get_or (nodes_of p) i m ≡ m → x ≡ end_with o m → PutAfter i n d (with_nodes p (with_item (out-KdlDocument p).nodes i x))
after_put d p i n b m x o h at c ends q r g w =
    let xs = nodes_of d in
    let there : slice_get xs i ≡ Some b = slice_get-get_or xs i b h ∙ ap Some at in
    let same : m ≡ b = sym g ∙ ap (λ (l : List KdlNode). get_or l i m) q ∙ get_or-insert_below xs (i + 1) n m i (omega arith) (omega arith) ∙ get_or_from_slice_get xs i b m there in
    record {
      last = b;
      format = o;
      there = there;
      exact = c;
      reads = ends;
      nodes = nodes_with p (with_item (out-KdlDocument p).nodes i x) ∙ ap (λ (l : List KdlNode). set l i x) (q ∙ ap (λ (k : ℕ). insert xs k n) (add-one i)) ∙ set_below xs i n x h
          ∙ ap (λ (y : KdlNode). insert (set xs i y) (suc i) n) (w ∙ ap (end_with o) same) ∙ ap (λ (k : ℕ). insert (set xs i (end_with o b)) k n) (sym (add-one i));
      rest = let v = with_item (out-KdlDocument p).nodes i x in
          ap (λ (z : KdlDocument). with_nodes z v) r ∙ with_nodes_twice d (out-KdlDocument p).nodes v ∙ ap (with_nodes d) (sym (ap (λ x. x.nodes) (out-roll-KdlDocument (record (out-KdlDocument p) { nodes = v }))));
    }
