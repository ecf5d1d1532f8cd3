-- Nodes in their blocks.
use Rattle.std.proofs.Common.{arith, ◌≡◌, ℕ, ◌+◌, ◌<◌, List, [], ◌∷◌, ◌++◌, Bool, true, false, IfSome, OnOk, Option, Some, None, Result, Ok, Err, ap, append_assoc, length, refl, sym, ◌∙◌}
use Rattle.std.specs.List.{IsSplitAt, IsLastAndRest, sum_by}
use Rattle.std.proofs.lemmas.Grind.{fold-append}
use Rattle.std.proofs.lemmas.List.{take-append-drop}
use Rattle.std.proofs.lemmas.List.Sums.{sum_by_push}
use Rattle.std.specs.Bool.{then_some}
use Rattle.kdl.specs.Internal.Count.{count_node, count_nodes, count_option}
use Rattle.kdl.specs.DocumentLookups.{nodes_of}
use Rattle.kdl.specs.Iterators.{child_nodes, nodes_in}
use Rattle.kdl.specs.declared.document.KdlDocument.{KdlDocument}
use Rattle.kdl.specs.declared.node.KdlNode.{KdlNode, out-KdlNode}
use Rattle.lsp.specs.Internal.Levels.{in_level, in_levels, in_owner}
use Rattle.lsp.specs.Internal.Nesting.{Items, Nesting, after_value}
use Rattle.lsp.specs.declared.symbols.Level.{Level}
use Rattle.kdl.proofs.NodeCounts.{count_doc_out, count_node_out, count_nodes-append}

-- what is there only if a test holds
pub if_then_some : {A : Type 0} (P : A → Type 0) (b : Bool) (x : A) → P x → IfSome (then_some b x) P
if_then_some P true x p = p
if_then_some P false x p = tt

-- the last element of the front of a list is between those before it and the back
pub last_in : {A : Type 0} (xs front back before : List A) (x : A) (mid : ℕ) → IsSplitAt xs mid front back → IsLastAndRest front x before → xs ≡ before ++ (x ∷ back)
last_in xs front back before x mid split last =
    sym (take-append-drop mid xs) ∙ rw (← split.1, ← split.2, last.0) (append_assoc before (x ∷ []) back)

in_block : (n : KdlNode) (o : Option KdlDocument) → count_node n ≡ 1 + count_option o → count_nodes (nodes_in o) < count_node n
in_block n None e = omega (arith, e)
in_block n (Some d) e = omega (arith, e, count_doc_out d)

-- a block has fewer nodes than the nodes with the one whose block it is
pub fewer_in : (nodes before after : List KdlNode) (n : KdlNode) → nodes ≡ before ++ (n ∷ after) → count_nodes (child_nodes n) < count_nodes nodes
fewer_in nodes before after n e =
    omega (arith, ap count_nodes e, count_nodes-append before (n ∷ after), in_block n (out-KdlNode n).children (count_node_out n))

-- what holds in any case
pub on_any : {A E : Type 0} (r : Result A E) (P : Type 0) → P → OnOk r P
on_any (Ok x) P p = p
on_any (Err e) P p = tt

-- less is left of lists of nodes, where one is left without its first node
pub less_left : {A : Type 0} (left : A → List KdlNode) (old new : List A) (nodes rest : List KdlNode) (n : KdlNode) (a : A)
    → nodes ≡ n ∷ rest → new ≡ old ++ (a ∷ []) → left a ≡ rest
    → sum_by (λ l. 1 + count_nodes (left l)) new < 1 + count_nodes nodes + sum_by (λ l. 1 + count_nodes (left l)) old
less_left left old new nodes rest n a e f same =
    omega (arith, ap count_nodes e, count_node_out n, ap (sum_by (λ l. 1 + count_nodes (left l))) f, sum_by_push (λ l. 1 + count_nodes (left l)) old a, ap count_nodes same)

-- also where the nodes in its block are left then
pub less_in : {A : Type 0} (left : A → List KdlNode) (old mid new : List A) (nodes rest : List KdlNode) (n : KdlNode) (d : KdlDocument) (a b : A)
    → nodes ≡ n ∷ rest → mid ≡ old ++ (a ∷ []) → left a ≡ rest → Some d ≡ (out-KdlNode n).children → new ≡ mid ++ (b ∷ []) → left b ≡ nodes_of d
    → sum_by (λ l. 1 + count_nodes (left l)) new < 1 + count_nodes nodes + sum_by (λ l. 1 + count_nodes (left l)) old
less_in left old mid new nodes rest n d a b e f same block g in_it =
    omega (
      arith,
      ap count_nodes e,
      count_node_out n,
      ap count_option block,
      count_doc_out d,
      ap (sum_by (λ l. 1 + count_nodes (left l))) f,
      sum_by_push (λ l. 1 + count_nodes (left l)) old a,
      ap count_nodes same,
      ap (sum_by (λ l. 1 + count_nodes (left l))) g,
      sum_by_push (λ l. 1 + count_nodes (left l)) mid b,
      ap count_nodes in_it,
    )

-- ---- lists of symbols, each in the one before it

pub pushed : (n : Nesting) (ls ms : List Level) (l : Level) → ms ≡ ls ++ l ∷ [] → in_levels n ms ≡ in_level (in_levels n ls) l
pushed n ls ms l e = ap (in_levels n) e ∙ fold-append in_level n ls (l ∷ [])

pub item_stays : {A : Type 0} (n : Nesting) (o : Option A) → after_value (in_owner n o) ≡ in_owner n o
item_stays n None = refl
item_stays n (Some owner) = refl

pub first_level : (n : Nesting) (ls ms : List Level) (l : Level) → ls ≡ [] → ms ≡ ls ++ l ∷ [] → l.owner ≡ None → Items n ≡ in_levels n ms
first_level n ls ms l none more owner = sym (pushed n ls ms l more ∙ ap (λ x. in_level (in_levels n x) l) none ∙ ap (in_owner n) owner)

pub none_left : (n : Nesting) (ls : List Level) → length ls ≡ 0 → in_levels n ls ≡ n
none_left n [] e = refl
none_left n (l ∷ ls) e = absurd (omega (arith, e))
