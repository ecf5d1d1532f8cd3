-- Settings that nodes give, one after another.
use Rattle.std.proofs.Common.{◌≡◌, ◌∙◌, ℕ, List, [], ◌∷◌, ◌++◌, Option, Some, None, ap, map, option_map, refl, subst, sym}
use Rattle.std.proofs.lemmas.List.{map-append}
use Rattle.std.specs.Option.{option_or}
use Rattle.std.specs.Str.{chars}
use Rattle.kdl.specs.Words.{Document, LaidDocument, NodeData, document_format_of, document_format_tree, document_span_of, document_tree, identifier_tree, name_of, node_says, node_tree, nodes_of}
use Rattle.kdl.proofs.Trees.{document_tree_out, node_tree_out}
use Rattle.kdl.specs.declared.document.KdlDocument.{KdlDocument}
use Rattle.kdl_entry.specs.declared.identifier.KdlIdentifier.{KdlIdentifier}
use Rattle.kdl_grammar.specs.Tree.{document, listed_nodes, node_data}
use Rattle.kdl.specs.declared.node.KdlNode.{KdlNode}
use Rattle.cli.specs.Config.{AreMisfits, IsConfig, given_by, given_of, merged, misfit, name_span}
use Rattle.cli.specs.Config.AreMisfits.{setting, no_setting}
use Rattle.cli.specs.Settings.{none_given}
use Rattle.cli.specs.declared.config.Misfit.{Misfit}
use Rattle.cli.specs.declared.settings.Given.{Given}

or_none : {A : Type 0} (o : Option A) → option_or o None ≡ o
or_none None = refl
or_none (Some x) = refl

or_or : {A : Type 0} (o p q : Option A) → option_or o (option_or p q) ≡ option_or (option_or o p) q
or_or None p q = refl
or_or (Some x) p q = refl

merged_none : (g : Given) → merged g none_given ≡ g
merged_none g = rw (or_none g.indent, or_none g.blank_lines, or_none g.respell, or_none g.expand) refl

merged_merged : (f g h : Given) → merged f (merged g h) ≡ merged (merged f g) h
merged_merged f g h = rw (or_or f.indent g.indent h.indent, or_or f.blank_lines g.blank_lines h.blank_lines, or_or f.respell g.respell h.respell, or_or f.expand g.expand h.expand) refl

-- what one more node gives
pub given_by-push : (ns : List NodeData) (n : NodeData) → given_by (ns ++ (n ∷ [])) ≡ merged (given_by ns) (given_of n)
given_by-push [] n = merged_none (given_of n)
given_by-push (m ∷ ms) n = ap (merged (given_of m)) (given_by-push ms n) ∙ merged_merged (given_of m) (given_by ms) (given_of n)

pub given_more : (xs xs' : List KdlNode) (x : KdlNode) (g h : Given) → g ≡ given_by (map node_says xs) → xs' ≡ xs ++ (x ∷ []) → h ≡ merged g (given_of (node_says x)) → h ≡ given_by (map node_says xs')
given_more xs xs' x g h e more is =
    is ∙ ap (λ (k : Given). merged k (given_of (node_says x))) e
    ∙ sym (ap (λ (l : List KdlNode). given_by (map node_says l)) more ∙ ap given_by (map-append node_says xs (x ∷ [])) ∙ given_by-push (map node_says xs) (node_says x))

data_of : (xs : List KdlNode) → map node_data (map node_tree xs) ≡ map node_says xs
data_of [] = refl
data_of (x ∷ xs) = ap (λ (l : List NodeData). node_says x ∷ l) (data_of xs)

trees_more : (xs xs' : List KdlNode) (x : KdlNode) → xs' ≡ xs ++ (x ∷ []) → map node_tree xs' ≡ map node_tree xs ++ (node_tree x ∷ [])
trees_more xs xs' x more = ap (map node_tree) more ∙ map-append node_tree xs (x ∷ [])

-- one more node that is a setting
pub one_setting : (xs xs' : List KdlNode) (x : KdlNode) (g : Given) (ms ms' : List Misfit) → AreMisfits (map node_tree xs) ms → g ≡ given_by (map node_says xs) → xs' ≡ xs ++ (x ∷ [])
    → misfit g (node_says x) ≡ None → ms' ≡ ms → AreMisfits (map node_tree xs') ms'
one_setting xs xs' x g ms ms' a e more is same =
    let fits = ap (λ (k : Given). misfit k (node_says x)) (ap given_by (data_of xs) ∙ sym e) ∙ is in
    rw (trees_more xs xs' x more, same) (setting (node_tree x) a fits)

-- one more node that is none
pub one_misfit : (xs xs' : List KdlNode) (x : KdlNode) (g : Given) (m : Misfit) (ms ms' : List Misfit) → AreMisfits (map node_tree xs) ms → g ≡ given_by (map node_says xs) → xs' ≡ xs ++ (x ∷ [])
    → misfit g (node_says x) ≡ Some m.why → m.span ≡ name_span (node_tree x) → ms' ≡ ms ++ (m ∷ []) → AreMisfits (map node_tree xs') ms'
one_misfit xs xs' x g m ms ms' a e more is at same =
    let unfit = ap (λ (k : Given). misfit k (node_says x)) (ap given_by (data_of xs) ∙ sym e) ∙ is in
    rw (trees_more xs xs' x more, same) (no_setting (node_tree x) m a unfit at)

-- the span of the name of a node in memory
pub name_at : (x : KdlNode) (i : KdlIdentifier) → i ≡ name_of x → (identifier_tree i).span ≡ name_span (node_tree x)
name_at x i e = ap (λ (j : KdlIdentifier). (identifier_tree j).span) e ∙ sym (ap name_span (node_tree_out x))

-- what the nodes of a document give
pub is_config : (text : List ℕ) (d : KdlDocument) (xs : List KdlNode) (g : Given) (ms : List Misfit) → LaidDocument (document_tree d) (chars text) → xs ≡ nodes_of d
    → g ≡ given_by (map node_says xs) → AreMisfits (map node_tree xs) ms → IsConfig text g ms
is_config text d xs g ms laid is e a = record {
  nodes = map node_tree xs;
  format = option_map document_format_tree (document_format_of d);
  span = document_span_of d;
  laid = subst (λ (x : Document). LaidDocument x (chars text)) (document_tree_out d ∙ ap (λ (ns : List KdlNode). document (option_map document_format_tree (document_format_of d)) (document_span_of d) (listed_nodes (map node_tree ns))) (sym is)) laid;
  gives = e ∙ ap given_by (sym (data_of xs));
  each = a;
}
