-- The canonical text reads back as what it is made of, so that no two data have the same.
use Rattle.kdl_layout.proofs.Common.{◌≡◌, ℕ, ◌+◌, true, List, [], ◌∷◌, ◌++◌, refl, subst, Option, Some, None, append_assoc, append-nil, list_all, repeat, Text, is_scalar, is_space, Star, plus, ValueEnd, Value, print_value, spelled, IsWellFormed, MaybeType, untyped, typed, parens, IsValue, value, IsEntry, property, argument, punctuation_end, printed_string, printed_value, Terminator, IsNode, named, AfterName, kept_entry, blocks, Blocks, AfterBlock, Gap, no_gap, AreNodes, last_gap, node_then, braces, IsDocument, gap_nodes, newline_gap, canonical_type, canonical_key, canonical_entries, canonical_node, canonical_children, canonical, canonical_nodes, AreScalars, AreWellFormedEntries, IsWellFormedNode, AreWellFormedChildren, AreWellFormed}
use Rattle.kdl_entry.specs.Data.{Entry}
use Rattle.kdl_grammar.specs.Data.{Node, node, Children, no_children, children, Nodes, none, first}
use Rattle.kdl_grammar.specs.Grammar.{IsDocumentIn, IsNodeText, node_text}
use Rattle.kdl_grammar.proofs.LawProofs.{one_document, one_node}
use Rattle.kdl_layout.specs.Canonical.{newline_if_none, Canonical, CanonicalNode}
use Rattle.kdl_layout.proofs.Keeping.KeptPlaces.{level_spaces}
use Rattle.kdl_layout.proofs.Rewriting.BeforeNewlines.{a_newline, newline_end}
use Rattle.kdl_layout.proofs.Rewriting.LinesAgain.{spaces_gap}
use Rattle.kdl_layout.proofs.Rewriting.PlacesAgain.{one_space, space_ends}

type_reads : (o : Option Text) (r : Text) → AreScalars o → MaybeType true (canonical_type o ++ r) r o
type_reads None r ok = untyped
type_reads (Some k) r ok = typed (parens Star.none (rw (append_assoc (spelled k) (41 ∷ []) r) (printed_string k (41 ∷ r) ok (punctuation_end 41 refl))) Star.none) Star.none

value_reads : (ty : Option Text) (v : Value) (r : Text) → AreScalars ty → IsWellFormed v → ValueEnd true r → IsValue true (canonical_type ty ++ (print_value v ++ r)) r ty v
value_reads ty v r t ok e = value (type_reads ty (print_value v ++ r) t) (printed_value v r ok e)

item_reads : (k ty : Option Text) (v : Value) (r : Text) → AreScalars k → AreScalars ty → IsWellFormed v → ValueEnd true r
    → IsEntry true (canonical_key k ++ (canonical_type ty ++ (print_value v ++ r))) r (record { key = k; ty = ty; value = v })
item_reads None ty v r a t ok e = argument (value_reads ty v r t ok e)
item_reads (Some s) ty v r a t ok e =
    rw (append_assoc (spelled s) (61 ∷ []) (canonical_type ty ++ (print_value v ++ r)))
    (property (printed_string s (61 ∷ (canonical_type ty ++ (print_value v ++ r))) a (punctuation_end 61 refl)) Star.none Star.none (value_reads ty v r t ok e))

joined : (k t v m u : Text) → ((32 ∷ k ++ t ++ v) ++ m) ++ u ≡ 32 ∷ (k ++ (t ++ (v ++ (m ++ u))))
joined k t v m u = simp append_assoc

ends : (es : List Entry) (t : Text) → ValueEnd true t → ValueEnd true (canonical_entries es ++ t)
ends [] t h = h
ends (e ∷ es) t h = space_ends _

entries_read : (es : List Entry) (k : Children) (t r : Text) → AreWellFormedEntries es → ValueEnd true t → AfterName true t r [] k → AfterName true (canonical_entries es ++ t) r es k
entries_read [] k t r ok h d = d
entries_read (e ∷ es) k t r ok h d =
    rw (joined (canonical_key e.key) (canonical_type e.ty) (print_value e.value) (canonical_entries es) t)
    (kept_entry (plus (one_space _) Star.none)
    (item_reads e.key e.ty e.value (canonical_entries es ++ t) ok.0.0 ok.0.1 ok.0.2 (ends es t h))
    (entries_read es k t r ok.1 h d))

-- spaces, and newlines, in a gap
level_gap : (indent : Text) → list_all is_space indent ≡ true → (level : ℕ) → {t r : Text} → Gap true t r → Gap true (repeat level indent ++ t) r
level_gap indent ok level g = spaces_gap (repeat level indent) (level_spaces indent ok level) g

empty_gap : (ns : Nodes) {t r : Text} → Gap true t r → Gap true (newline_if_none ns ++ t) r
empty_gap none g = newline_gap g
empty_gap (first n ns) g = g

children_end : (indent : Text) (level : ℕ) (k : Children) (r : Text) → ValueEnd true r → ValueEnd true (canonical_children indent level k ++ r)
children_end indent level no_children r h = h
children_end indent level (children ns) r h = space_ends _

node_joined : (i t n e k r : Text) → (i ++ t ++ n ++ e ++ k ++ (10 ∷ [])) ++ r ≡ i ++ (t ++ (n ++ (e ++ (k ++ (10 ∷ r)))))
node_joined i t n e k r = simp append_assoc

block_joined : (c i r : Text) → ((32 ∷ 123 ∷ 10 ∷ []) ++ c ++ i ++ (125 ∷ [])) ++ r ≡ 32 ∷ 123 ∷ 10 ∷ (c ++ (i ++ (125 ∷ r)))
block_joined c i r = simp append_assoc

-- a node but for its indentation
inner_reads : (ty : Option Text) (name : Text) (es : List Entry) (k : Children) (c r : Text) → AreScalars ty → list_all is_scalar name ≡ true → AreWellFormedEntries es
    → ValueEnd true (c ++ (10 ∷ r)) → AfterName true (c ++ (10 ∷ r)) (10 ∷ r) [] k
    → IsNode true (canonical_type ty ++ (spelled name ++ (canonical_entries es ++ (c ++ (10 ∷ r))))) (10 ∷ r) (node ty name es k)
inner_reads ty name es k c r y n e last d =
    named (type_reads ty _ y) (printed_string name _ n (ends es _ last)) (entries_read es k _ (10 ∷ r) e last d)

module _ (indent : Text) (ok : list_all is_space indent ≡ true) where
  mutual
    children_read : (level : ℕ) (k : Children) (r : Text) → AreWellFormedChildren k → AfterName true (canonical_children indent level k ++ (10 ∷ r)) (10 ∷ r) [] k
    children_read level no_children r w = blocks (Blocks.no_block Star.none)
    children_read level (children ns) r w =
        rw (block_joined (canonical indent (level + 1) ns) (repeat level indent) (10 ∷ r), append_assoc (canonical_nodes indent (level + 1) ns) (newline_if_none ns) (repeat level indent ++ (125 ∷ 10 ∷ r)))
        (blocks (Blocks.block (Star.more (one_space _) Star.none)
        (braces (gap_nodes (newline_gap no_gap) (nodes_read (level + 1) ns _ _ w (empty_gap ns (level_gap indent ok level no_gap))))) (AfterBlock.no_more Star.none)))

    nodes_read : (level : ℕ) (ns : Nodes) (t r : Text) → AreWellFormed ns → Gap true t r → AreNodes true (canonical_nodes indent level ns ++ t) r ns
    nodes_read level none t r w g = last_gap g
    nodes_read level (first (node ty name es k) ns) t r w g =
        rw (
          append_assoc (canonical_node indent level (node ty name es k)) (canonical_nodes indent level ns) t,
          node_joined (repeat level indent) (canonical_type ty) (spelled name) (canonical_entries es) (canonical_children indent level k) (canonical_nodes indent level ns ++ t),
        )
        (node_then (level_gap indent ok level no_gap)
        (inner_reads ty name es k (canonical_children indent level k) (canonical_nodes indent level ns ++ t) w.0.0 w.0.1 w.0.2 (children_end indent level k _ (newline_end _))
        (children_read level k (canonical_nodes indent level ns ++ t) w.0.3))
        (Terminator.newline (a_newline _)) (nodes_read level ns t r w.1 g))

  document_reads : (level : ℕ) (x : Nodes) → AreWellFormed x → IsDocument (canonical indent level x) x
  document_reads level x w =
      IsDocumentIn.no_bom (nodes_read level x (newline_if_none x) [] w (subst (λ (t : Text). Gap true t []) (append-nil (newline_if_none x)) (empty_gap x no_gap)))

  node_reads : (level : ℕ) (x : Node) → IsWellFormedNode x → IsNodeText (canonical_node indent level x) x
  node_reads level (node ty name es k) w =
      subst (λ (t : Text). IsNodeText t (node ty name es k)) (append-nil (canonical_node indent level (node ty name es k)))
      (rw (node_joined (repeat level indent) (canonical_type ty) (spelled name) (canonical_entries es) (canonical_children indent level k) [])
      (node_text (level_gap indent ok level no_gap)
      (inner_reads ty name es k (canonical_children indent level k) [] w.0 w.1 w.2 (children_end indent level k _ (newline_end [])) (children_read level k [] w.3))
      (Terminator.newline (a_newline [])) Star.none))

  pub canonical_reads : (level : ℕ) (x : Nodes) → AreWellFormed x → Canonical indent level x
  canonical_reads level x w =
      let here = document_reads level x w in
      record {
        derived = here;
        alone = λ y d. one_document true (canonical indent level x) y x d here;
        apart = λ y v e. one_document true (canonical indent level x) y x (subst (λ (t : Text). IsDocument t y) e (document_reads level y v)) here;
      }

  pub canonical_node_reads : (level : ℕ) (x : Node) → IsWellFormedNode x → CanonicalNode indent level x
  canonical_node_reads level x w =
      let here = node_reads level x w in
      record {
        derived = here;
        alone = λ y d. one_node true (canonical_node indent level x) y x d here;
        apart = λ y v e. one_node true (canonical_node indent level x) y x (subst (λ (t : Text). IsNodeText t y) e (node_reads level y v)) here;
      }
