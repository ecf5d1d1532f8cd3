-- Entries and nodes in memory are fit.
use Rattle.std.proofs.Common.{◌≡◌, Option, Some, None, List, [], ◌∷◌, map, option_map, refl, ap, ◌∙◌, sym, subst}
use Rattle.kdl_entry.specs.Tree.{entry_data, entry_tree, identifier_tree}
use Rattle.kdl_entry.specs.declared.entry.KdlEntry.{KdlEntry}
use Rattle.kdl_entry.specs.declared.identifier.KdlIdentifier.{KdlIdentifier}
use Rattle.kdl_layout.specs.WellFormed.{AreScalars, AreWellFormedEntries, IsWellFormedEntry}
use Rattle.kdl_value.specs.Tree.{value_tree}
use Rattle.kdl_value.specs.WellFormed.{IsWellFormed}
use Rattle.kdl_value.proofs.WellFormed.{text_scalars}
use Rattle.kdl_grammar.specs.Tree.{node_data}
use Rattle.kdl.specs.Lookups.{entries_of}
use Rattle.kdl.specs.Tree.{node_says}
use Rattle.kdl.specs.declared.node.KdlNode.{KdlNode}
use Rattle.kdl.specs.declared.document.KdlDocument.TheViews.{out-KdlNode}
use Rattle.kdl.proofs.Trees.{node_tree_out}
use Rattle.json.specs.Token.{Token}
use Rattle.kdl_text.specs.Chars.{Text}
use Rattle.kdl_entry.specs.Data.{Entry}
use Rattle.kdl_grammar.specs.Data.{Node, node}
use Rattle.kdl.specs.Said.{said_entries, said_name, said_type}
use Rattle.kdl_json.specs.Form.{head_tokens}
use Rattle.kdl_json.specs.Heads.{head_of}
use Rattle.kdl_json.specs.Writing.{IsFitHead}

scalars : (o : Option KdlIdentifier) → AreScalars (option_map (λ i. i.value) (option_map identifier_tree o))
scalars None = tt
scalars (Some i) = text_scalars i.value

pub entry_fit : (e : KdlEntry) → IsWellFormed (value_tree e.value) → IsWellFormedEntry (entry_data (entry_tree e))
entry_fit e w = (scalars e.name, scalars e.ty, w)

pub head_fit : (n : KdlNode) → AreWellFormedEntries (map entry_data (map entry_tree (entries_of n))) → IsFitHead (node_says n)
head_fit n w = subst IsFitHead (sym (ap node_data (node_tree_out n))) (scalars (out-KdlNode n).ty, text_scalars (out-KdlNode n).name.value, w)

pub entries_mapped : (es : List KdlEntry) → map entry_data (map entry_tree es) ≡ map (λ e. entry_data (entry_tree e)) es
entries_mapped [] = refl
entries_mapped (e ∷ es) = ap (λ l. entry_data (entry_tree e) ∷ l) (entries_mapped es)

-- the tokens of a node up to its entries, by the parts of it
said_head : (n : Node) (ts : List Token) → head_tokens (said_type n) (said_name n) (said_entries n) ts ≡ head_of n ts
said_head (node ty name es k) ts = refl

pub head_is : (n : Node) (ty : Option Text) (name : Text) (es : List Entry) → ty ≡ said_type n → name ≡ said_name n → es ≡ said_entries n → (ts : List Token) → head_tokens ty name es ts ≡ head_of n ts
head_is n ty name es t m e ts =
    ap (λ (x : Option Text). head_tokens x name es ts) t ∙ ap (λ (x : Text). head_tokens (said_type n) x es ts) m ∙ ap (λ (x : List Entry). head_tokens (said_type n) (said_name n) x ts) e
    ∙ said_head n ts
