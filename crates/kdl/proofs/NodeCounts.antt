-- Counts, level by level.
use Rattle.kdl.proofs.Common.{◌≡◌, ℕ, ◌+◌, ◌*◌, ◌<◌, ◌≤◌, List, [], ◌∷◌, ◌++◌, map, ap, ◌∙◌, sym, refl, Option, None, Some, arith, set, length, get_or, map-append, count_nodes, count_option, count_left, KdlNode, KdlDocument, KdlNode-F, out-KdlDocument, out-KdlNode, map-KdlNode, fold_out-KdlDocument, fold_out-KdlNode}
use Rattle.std.proofs.Math.Nat.{mul-le-mul_left}
use Rattle.std.specs.List.{sum_by}
use Rattle.std.proofs.lemmas.List.Sums.{sum_by-cons, sum_by-set, get_or-le-sum_by}
use Rattle.kdl.specs.Internal.Count.{total, doc_step, node_step, count_doc, count_node}

pub total-append : (xs ys : List ℕ) → total (xs ++ ys) ≡ total xs + total ys
total-append [] ys = omega arith
total-append (x ∷ xs) ys = omega (arith, total-append xs ys)

pub count_nodes-append : (xs ys : List KdlNode) → count_nodes (xs ++ ys) ≡ count_nodes xs + count_nodes ys
count_nodes-append xs ys = ap total (map-append count_node xs ys) ∙ total-append (map count_node xs) (map count_node ys)

abbrev mapped : KdlNode-F KdlDocument KdlNode → KdlNode-F ℕ ℕ
mapped = map-KdlNode KdlDocument KdlNode ℕ ℕ count_doc count_node

step_mapped : (x : KdlNode-F KdlDocument KdlNode) → node_step (mapped x) ≡ 1 + count_option x.children
step_mapped x =
    elim x.children as (λ o. node_step (mapped (record x { children = o })) ≡ 1 + count_option o) [ None ↦ refl | Some c ↦ refl ]

pub count_doc_out : (x : KdlDocument) → count_doc x ≡ 1 + count_nodes (out-KdlDocument x).nodes.items
count_doc_out x = fold_out-KdlDocument ℕ ℕ doc_step node_step x

pub count_node_out : (x : KdlNode) → count_node x ≡ 1 + count_option (out-KdlNode x).children
count_node_out x = fold_out-KdlNode ℕ ℕ doc_step node_step x ∙ step_mapped (out-KdlNode x)

pub count_nodes-last : (xs : List KdlNode) (x : KdlNode) → count_nodes (xs ++ x ∷ []) ≡ count_nodes xs + count_node x
count_nodes-last xs x = omega (arith, count_nodes-append xs (x ∷ []))

count_nodes_sum : (xs : List KdlNode) → count_nodes xs ≡ sum_by count_node xs
count_nodes_sum [] = refl
count_nodes_sum (x ∷ xs) = ap (λ n. count_node x + n) (count_nodes_sum xs) ∙ sym (sum_by-cons count_node x xs)

-- a node whose children are exchanged
pub exchanged : (xs : List KdlNode) (i : ℕ) (n y : KdlNode) (o q : Option KdlDocument) → i < length xs → get_or xs i n ≡ n → o ≡ (out-KdlNode n).children → (out-KdlNode y).children ≡ q
    → (count_nodes (set xs i y) + count_option o ≡ count_nodes xs + count_option q) × (count_option o < count_nodes xs)
exchanged xs i n y o q h e k m =
    let a = sum_by-set count_node xs i y n h in
    let b : count_node (get_or xs i n) ≡ count_node n = ap count_node e in
    let c : count_option o ≡ count_option (out-KdlNode n).children = ap count_option k in
    let l = get_or-le-sum_by count_node xs i n h in (
      omega (arith, a, b, c, count_node_out y, ap count_option m, count_nodes_sum xs, count_nodes_sum (set xs i y), count_node_out n),
      omega (arith, l, b, c, count_nodes_sum xs, count_node_out n),
    )

-- where the whole goes down, the measure does, whatever the part is
pub goes_down : (all part all' part' : ℕ) → all' < all → part' ≤ all' → all' * all' + part' < all * all + part
goes_down all part all' part' h k =
    let s : all' + 1 ≤ all = omega (arith, h) in
    omega (arith, h, k, mul-le-mul_left all' s, mul-le-mul_left all s)

-- the last node leaves
pub left : (xs ys : List KdlNode) (x : KdlNode) → xs ≡ ys ++ x ∷ [] → count_nodes xs ≡ count_nodes ys + (1 + count_option (out-KdlNode x).children)
left xs ys x e = omega (arith, ap count_nodes e, count_nodes-last ys x, count_node_out x)

count_above-more : {A : Type 0} (following : A → List KdlNode) (above : List A) (o : A) → total (map (λ p. 1 + count_nodes (following p)) (above ++ o ∷ [])) ≡ total (map (λ p. 1 + count_nodes (following p)) above) + (1 + count_nodes (following o))
count_above-more following above o =
    omega (arith, ap total (map-append (λ p. 1 + count_nodes (following p)) above (o ∷ [])), total-append (map (λ p. 1 + count_nodes (following p)) above) ((1 + count_nodes (following o)) ∷ []))

pub line_counted : {A : Type 0} (following : A → List KdlNode) (n : KdlNode) (rest : List KdlNode) (above : List A) → count_left following rest above < count_left following (n ∷ rest) above
line_counted following n rest above = omega (arith, count_node_out n)

pub block_counted : {A : Type 0} (following : A → List KdlNode) (n : KdlNode) (d : KdlDocument) (o : A) (above : List A) → (out-KdlNode n).children ≡ Some d
    → count_left following (out-KdlDocument d).nodes.items (above ++ o ∷ []) < count_left following (n ∷ following o) above
block_counted following n d o above e = omega (arith, count_node_out n, ap count_option e, count_doc_out d, count_above-more following above o)

pub end_counted : {A : Type 0} (following : A → List KdlNode) (o : A) (above : List A) → count_left following (following o) above < count_left following [] (above ++ o ∷ [])
end_counted following o above = omega (arith, count_above-more following above o)
