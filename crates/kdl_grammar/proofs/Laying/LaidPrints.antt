-- What is laid in a text prints it.
use Rattle.std.proofs.Common.{◌≡◌, ℕ, ◌+◌, Bool, List, [], ◌∷◌, ◌++◌, refl, sym, ap, ◌∙◌, append_assoc, append-nil}
use Rattle.kdl_text.specs.Chars.{Text}
use Rattle.kdl_text.specs.declared.span.SourceSpan.{SourceSpan}
use Rattle.kdl_entry.specs.Laid.{LaidEntry, laid_entry}
use Rattle.kdl_entry.specs.Print.{print_identifier, print_type}
use Rattle.kdl_entry.specs.Tree.{Entry}
use Rattle.kdl_entry.proofs.Laying.LaidPrints.{identifier_printed, type_printed, entry_printed}
use Rattle.kdl_grammar.specs.Laid.{LaidEntries, no_entry, an_entry, LaidNode, laid_node, no_block, a_block, LaidNodes, no_node, a_node, LaidContent, without_nodes, with_nodes, LaidDocumentAs, with_bom, LaidNodeTextAs, laid_node_text}
use Rattle.kdl_grammar.specs.Print.{after_brace, before_brace, format_of, print_piece, print_pieces, print_node, print_nodes, print_document, print_block}
use Rattle.kdl_grammar.specs.Tree.{Node, Document, Nodes, first}

node_text : (q y h n p t r : Text) → q ++ (y ++ (h ++ (n ++ (p ++ (t ++ r))))) ≡ ((q ++ y ++ h ++ n) ++ p ++ t) ++ r
node_text q y h n p t r = simp append_assoc

tail_text : (b x d y c p z w r : Text) → b ++ ((x ++ d ++ y ++ c) ++ (p ++ (z ++ (w ++ r)))) ≡ (b ++ x ++ d ++ y ++ (c ++ (p ++ z ++ w))) ++ r
tail_text b x d y c p z w r = simp append_assoc

empty_text : (q c u : Text) → q ++ (c ++ u) ≡ (((q ++ [] ++ []) ++ []) ++ c) ++ u
empty_text q c u = simp (append_assoc, append-nil)

full_text : (n q c u : Text) → n ++ (q ++ (c ++ u)) ≡ (((n ++ q) ++ []) ++ c) ++ u
full_text n q c u = simp (append_assoc, append-nil)

module _ (exact : Bool) (whole : Text) where
  piece_printed : {e : Entry} {s r : Text} → LaidEntry exact whole e s r → s ≡ print_piece e ++ r
  piece_printed (laid_entry l (Rattle.kdl_entry.specs.Laid.item k y v) x) = entry_printed exact whole (laid_entry l (Rattle.kdl_entry.specs.Laid.item k y v) x)

  pub entries_printed : {es : List Entry} {s r : Text} → LaidEntries exact whole es s r → s ≡ print_pieces es ++ r
  entries_printed no_entry = refl
  entries_printed (an_entry {r = r} {e = e} {es = es} l ls) = piece_printed l ∙ ap (λ (x : Text). print_piece e ++ x) (entries_printed ls) ∙ sym (append_assoc (print_piece e) (print_pieces es) r)

  mutual
    node_printed : {leading end trailing s u : Text} {at : SourceSpan} {x : Node} (depth : ℕ) → LaidNode exact whole leading end trailing at x s u → (r : Text) → u ≡ end ++ (trailing ++ r) → leading ++ s ≡ print_node x depth ++ r
    node_printed {leading = q} {end = z} {trailing = w} depth (laid_node {before = b} {after = a} {following = h} {before_terminator = p} {ty = y} {name = n} {es = es} d i e (no_block c)) r x =
        ap (λ (x : Text). q ++ x) (type_printed exact whole d ∙ ap (λ (x : Text). print_type y b a ++ (h ++ x)) (identifier_printed exact whole i ∙ ap (λ (x : Text). print_identifier n ++ x) (entries_printed e ∙ ap (λ (x : Text). print_pieces es ++ x) (c.text ∙ ap (λ (v : Text). p ++ v) x))))
        ∙ simp append_assoc
    node_printed {leading = q} {end = z} {trailing = w} depth (laid_node {before = b} {after = a} {following = h} {before_children = bc} {before_terminator = p} {ty = y} {name = n} {es = es} d i e (a_block {d = doc} c ns l)) r x =
        ap (λ (x : Text). q ++ x) (type_printed exact whole d ∙ ap (λ (x : Text). print_type y b a ++ (h ++ x)) (identifier_printed exact whole i ∙ ap (λ (x : Text). print_identifier n ++ x) (entries_printed e ∙ ap (λ (x : Text). print_pieces es ++ x)
        (c.text ∙ ap (λ (v : Text). bc ++ v) (block_printed depth ns ∙ ap (λ (v : Text). print_block doc depth ++ v) (l.text ∙ ap (λ (v : Text). p ++ v) x))
        ∙ tail_text bc (123 ∷ after_brace (format_of doc)) (print_document doc (depth + 1)) (before_brace (format_of doc) depth) (125 ∷ []) p z w r))))
        ∙ node_text q (print_type y b a) h (print_identifier n) (print_pieces es) (bc ++ (123 ∷ after_brace (format_of doc)) ++ print_document doc (depth + 1) ++ before_brace (format_of doc) depth ++ (125 ∷ (p ++ z ++ w))) r

    block_printed : {s u : Text} {d : Document} (depth : ℕ) → LaidContent exact whole d s (125 ∷ u) → 123 ∷ s ≡ print_block d depth ++ u
    block_printed {u = u} depth (without_nodes {leading = q} g z) = ap (λ (x : Text). 123 ∷ x) (g.text ∙ empty_text q (125 ∷ []) u)
    block_printed {u = u} depth (with_nodes {trailing = q} {x = x} {xs = xs} ns g z) = ap (λ (x : Text). 123 ∷ x) (nodes_printed (depth + 1) ns ∙ ap (λ (y : Text). print_nodes (first x xs) (depth + 1) ++ y) g.text ∙ full_text (print_nodes (first x xs) (depth + 1)) q (125 ∷ []) u)

    nodes_printed : {xs : Nodes} {s r : Text} (depth : ℕ) → LaidNodes exact whole xs s r → s ≡ print_nodes xs depth ++ r
    nodes_printed depth no_node = refl
    nodes_printed depth (a_node {v = v} {r = r} {x = x} {xs = xs} l n e z ns) =
        l.text ∙ node_printed depth n v e.text ∙ ap (λ (y : Text). print_node x depth ++ y) (nodes_printed depth ns) ∙ sym (append_assoc (print_node x depth) (print_nodes xs depth) r)

  content_printed : {d : Document} {s : Text} → LaidContent exact whole d s [] → s ≡ print_document d 0
  content_printed (without_nodes g z) = g.text ∙ simp append-nil
  content_printed (with_nodes {x = x} {xs = xs} ns g z) = nodes_printed 0 ns ∙ ap (λ (y : Text). print_nodes (first x xs) 0 ++ y) g.text ∙ simp append-nil

bom_printed : {exact : Bool} {whole : Text} {d : Document} {s r : Text} → LaidContent exact whole d s r → print_document (with_bom d) 0 ≡ 0xFEFF ∷ print_document d 0
bom_printed (without_nodes g z) = refl
bom_printed (with_nodes ns g z) = refl

pub printed : (exact : Bool) (d : Document) (t : Text) → LaidDocumentAs exact d t → print_document d 0 ≡ t
printed exact d t (LaidDocumentAs.no_bom c) = sym (content_printed exact t c)
printed exact d t (LaidDocumentAs.after_bom c) = bom_printed c ∙ ap (λ (x : Text). 0xFEFF ∷ x) (sym (content_printed exact t c))

pub node_text_printed : (exact : Bool) (x : Node) (t : Text) → LaidNodeTextAs exact t x → print_node x 0 ≡ t
node_text_printed exact x t (laid_node_text {end = z} {trailing = w} g n e ls at) =
    sym (g.text ∙ node_printed exact t 0 n [] (e.text ∙ ap (λ (y : Text). z ++ y) ls.text) ∙ append-nil (print_node x 0))
