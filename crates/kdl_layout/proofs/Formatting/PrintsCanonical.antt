-- A tree without formats and spellings says the same, and what layout makes of a tree prints the canonical text.
use Rattle.kdl_layout.proofs.Common.{◌≡◌, ℕ, ◌+◌, Bool, true, false, List, [], ◌∷◌, ◌++◌, map, refl, sym, ap, ◌∙◌, Option, Some, None, option_map, append_assoc, append-nil, if◌then◌else◌, Text, print_value, spelled, print_type, print_key, Identifier, Entry, EntryFormat, unspelled, cleared, kept, autoformatted, autoformatted_format, entry_data, print_piece, print_pieces, print_node, print_tail, print_nodes, print_document, Head, Node, node, Children, no_children, children, Document, document, Nodes, none, first, node_data, children_data, document_data, nodes_data, canonical_type, canonical_key, canonical_entries, canonical_node, canonical_children, canonical, canonical_nodes, Settings, indentation, with_keep_if, formatted_entry, newline_if_none, formatted_head, formatted_node, formatted_children, formatted_nodes, formatted_document, EntriesKeepNone, NodeKeepsNone, ChildrenKeepNone, DocumentKeepsNone, NodesKeepNone, is_kept_format}
use Rattle.kdl_grammar.specs.Data as data'
use Rattle.kdl_layout.specs.Canonical as canonical'
use Rattle.kdl_layout.specs.Config.{IsPlain}
use Rattle.kdl_layout.specs.Formatted.{bare_node, bare_children, bare_document, bare_nodes}
use Rattle.kdl_layout.proofs.Texts.{name_of, no_format}

-- what stays says the same
unspelled_name : (o : Option Identifier) → name_of (option_map unspelled o) ≡ name_of o
unspelled_name None = refl
unspelled_name (Some i) = refl

cleared_entries : (es : List Entry) → map entry_data (map cleared es) ≡ map entry_data es
cleared_entries [] = refl
cleared_entries (e ∷ es) = let a = unspelled_name e.name in let b = unspelled_name e.ty in let c = cleared_entries es in cc

mutual
  pub bare_node_data : (n : Node) → node_data (bare_node n) ≡ node_data n
  bare_node_data (node h k) = let t = unspelled_name h.ty in let e = cleared_entries h.entries in let c = bare_children_data k in cc

  bare_children_data : (k : Children) → children_data (bare_children k) ≡ children_data k
  bare_children_data no_children = refl
  bare_children_data (children d) = ap data'.children (bare_document_data d)

  pub bare_document_data : (d : Document) → document_data (bare_document d) ≡ document_data d
  bare_document_data (document f span ns) = bare_nodes_data ns

  pub bare_nodes_data : (ns : Nodes) → nodes_data (bare_nodes ns) ≡ nodes_data ns
  bare_nodes_data none = refl
  bare_nodes_data (first n ns) = let a = bare_node_data n in let b = bare_nodes_data ns in cc

-- layout changes formats and spellings alone
pub unspelled_twice : (o : Option Identifier) → option_map unspelled (option_map unspelled o) ≡ option_map unspelled o
unspelled_twice None = refl
unspelled_twice (Some i) = refl

pub cleared_formatted : (k : Bool) (e : Entry) → cleared (autoformatted (with_keep_if k e)) ≡ cleared e
cleared_formatted false e = rw (unspelled_twice e.name, unspelled_twice e.ty) refl
cleared_formatted true e = rw (unspelled_twice e.name, unspelled_twice e.ty) refl

-- no entry is flagged any more
pub not_kept_again : (o : Option EntryFormat) → is_kept_format (autoformatted_format o) ≡ false
not_kept_again None = refl
not_kept_again (Some f) = go f.autoformat_keep
  where
    go : (b : Bool) → is_kept_format (if b then Some (kept f) else None) ≡ false
    go true = refl
    go false = refl

-- and where none was, the text is the canonical one
key_canonical : (o : Option Identifier) → print_key (option_map unspelled o) [] [] ≡ canonical_key (name_of o)
key_canonical None = refl
key_canonical (Some i) = simp (append_assoc, append-nil)

type_canonical : (o : Option Identifier) → print_type (option_map unspelled o) [] [] ≡ canonical_type (name_of o)
type_canonical None = refl
type_canonical (Some i) = simp append_assoc

entry_formatted : (s : Settings) (e : Entry) → IsPlain s → is_kept_format e.format ≡ false → formatted_entry s e ≡ cleared e
entry_formatted s e p h = rw (p.1, no_format e.format h) refl

piece_canonical : (e : Entry) → print_piece (cleared e) ≡ 32 ∷ canonical_key (name_of e.name) ++ canonical_type (name_of e.ty) ++ print_value e.value
piece_canonical e = rw (key_canonical e.name, type_canonical e.ty) refl

entries_canonical : (s : Settings) (es : List Entry) → IsPlain s → EntriesKeepNone es → print_pieces (map (formatted_entry s) es) ≡ canonical_entries (map entry_data es)
entries_canonical s [] p h = refl
entries_canonical s (e ∷ es) p h =
    let more = print_pieces (map (formatted_entry s) es) in
    ap (λ (x : Entry). print_piece x ++ more) (entry_formatted s e p h.0)
    ∙ ap (λ (t : Text). t ++ more) (piece_canonical e)
    ∙ ap (λ (t : Text). (32 ∷ canonical_key (name_of e.name) ++ canonical_type (name_of e.ty) ++ print_value e.value) ++ t) (entries_canonical s es p h.1)

newline_same : (ns : Nodes) → newline_if_none ns ≡ canonical'.newline_if_none (nodes_data ns)
newline_same none = refl
newline_same (first n ns) = refl

head_joined : (i t n e k : Text) → i ++ t ++ [] ++ n ++ e ++ (k ++ (10 ∷ [])) ≡ i ++ t ++ n ++ e ++ k ++ (10 ∷ [])
head_joined i t n e k = simp (append_assoc, append-nil)

pub block_joined : (ns l i : Text) → (32 ∷ []) ++ (123 ∷ []) ++ ((10 ∷ []) ++ ns ++ (l ++ i)) ++ [] ++ (125 ∷ [] ++ (10 ∷ []) ++ []) ≡ (32 ∷ 123 ∷ 10 ∷ []) ++ (ns ++ l) ++ i ++ (125 ∷ []) ++ (10 ∷ [])
block_joined ns l i =
    ap (λ (t : Text). 32 ∷ 123 ∷ 10 ∷ t)
    (ap (λ (t : Text). t ++ (125 ∷ 10 ∷ [])) (append-nil (ns ++ (l ++ i)) ∙ sym (append_assoc ns l i)) ∙ sym (append_assoc (ns ++ l ++ i) (125 ∷ []) (10 ∷ [])))

-- a node's line, before what its block prints
pub head_canonical : (s : Settings) (level depth : ℕ) (h : Head) (k' : Children) (t : Text) → IsPlain s → EntriesKeepNone h.entries → print_tail (formatted_head s level h) k' depth ≡ t ++ (10 ∷ [])
    → print_node (node (formatted_head s level h) k') depth ≡ indentation s level ++ canonical_type (name_of h.ty) ++ spelled h.name.value ++ canonical_entries (map entry_data h.entries) ++ t ++ (10 ∷ [])
head_canonical s level depth h k' t p m e =
    rw (type_canonical h.ty, entries_canonical s h.entries p m, e)
    (head_joined (indentation s level) (canonical_type (name_of h.ty)) (spelled h.name.value) (canonical_entries (map entry_data h.entries)) t)

mutual
  pub node_canonical : (s : Settings) (level depth : ℕ) (n : Node) → IsPlain s → NodeKeepsNone n → print_node (formatted_node s level n) depth ≡ canonical_node s.indent level (node_data n)
  node_canonical s level depth (node h k) p m =
      head_canonical s level depth h (formatted_children s level k) (canonical_children s.indent level (children_data k)) p m.0 (tail_canonical s level depth h k p m.1)

  tail_canonical : (s : Settings) (level depth : ℕ) (h : Head) (k : Children) → IsPlain s → ChildrenKeepNone k
      → print_tail (formatted_head s level h) (formatted_children s level k) depth ≡ canonical_children s.indent level (children_data k) ++ (10 ∷ [])
  tail_canonical s level depth h no_children p m = refl
  tail_canonical s level depth h (children (document f span ns)) p m =
      rw (nodes_canonical s (level + 1) (depth + 1) ns p m, newline_same ns)
      (block_joined (canonical_nodes s.indent (level + 1) (nodes_data ns)) (canonical'.newline_if_none (nodes_data ns)) (indentation s level))

  nodes_canonical : (s : Settings) (level depth : ℕ) (ns : Nodes) → IsPlain s → NodesKeepNone ns → print_nodes (formatted_nodes s level ns) depth ≡ canonical_nodes s.indent level (nodes_data ns)
  nodes_canonical s level depth none p m = refl
  nodes_canonical s level depth (first n ns) p m =
      ap (λ (t : Text). t ++ print_nodes (formatted_nodes s level ns) depth) (node_canonical s level depth n p m.0)
      ∙ ap (λ (t : Text). canonical_node s.indent level (node_data n) ++ t) (nodes_canonical s level depth ns p m.1)

pub document_canonical : (s : Settings) (level depth : ℕ) (d : Document) → IsPlain s → DocumentKeepsNone d → print_document (formatted_document s level d) depth ≡ canonical s.indent level (document_data d)
document_canonical s level depth (document f span ns) p m = rw (nodes_canonical s level depth ns p m, newline_same ns) refl
