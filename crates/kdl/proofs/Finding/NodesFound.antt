-- What a document's look-ups find once an argument is written.
use Rattle.kdl.proofs.Common.{◌≡◌, ℕ, Bool, true, false, length, take, List, [], ◌∷◌, ◌++◌, set, Option, Some, None, IsSome, option_and_then, slice_get, refl, ap, ◌∙◌, sym, string_bytes, Vec, Global, none-some, bytes_eq-Decides, filter, with_item, value_tree, KdlValue, KdlEntry, nth_place, same_text, Index, with_entries, argument_named, first_argument, is_node_named, node_named, node_place, nodes_of, with_argument_in, with_argument_there, with_node_named, with_node_there, IsArgumentSet, held_value, value_of, with_found_value, KdlNode, KdlDocument, out-KdlDocument, out-roll-KdlDocument, out-KdlNode, out-roll-KdlNode}
use Rattle.kdl.specs.DocumentLookups.{with_argument_named}
use Rattle.kdl.specs.Found.{IsSetIn}
use Rattle.kdl.proofs.Finding.DocumentLookups.{found_there}
use Rattle.kdl.proofs.Finding.EntriesFound.{differ, value_sets_at}
use Rattle.kdl.proofs.Finding.ListLookups.{NthIs, Splice, find_first, first_is, got_new, nth_found, nth_is, one_passes, same_passing, splice_set, spliced}

-- the first node of that name, and the nodes of the document with another one in its place
record FirstAt (s : List ℕ) (d : KdlDocument) (x n : KdlNode) (i : ℕ) : Type 0 where
  pub here : slice_get (nodes_of d) i ≡ Some x
  pub passes : is_node_named s x ≡ true
  pub before : length (filter (is_node_named s) (take i (nodes_of d))) ≡ 0
  pub nodes : nodes_of (with_node_named s d n) ≡ set (nodes_of d) i n

first_at : (s : List ℕ) (x n : KdlNode) (d : KdlDocument) → node_named s d ≡ Some x → (i : ℕ) × FirstAt s d x n i
first_at s x n d h = go (nth_place p (nodes_of d) 0) (nth_is p (nodes_of d) 0) (nth_found p (nodes_of d) 0 ∙ sym (find_first p (nodes_of d)) ∙ h) (first_is p (nodes_of d))
  where
    p : KdlNode → Bool
    p = is_node_named s

    same_some : {x y : KdlNode} → ◌≡◌ {A = Option KdlNode} (Some x) (Some y) → x ≡ y
    same_some e = cc

    go : (o : Option ℕ) → NthIs p (nodes_of d) 0 o → option_and_then (λ i. slice_get (nodes_of d) i) o ≡ Some x → node_place s d ≡ o → (i : ℕ) × FirstAt s d x n i
    go None at k e = absurd (none-some _ k)
    go (Some i) at k e = (
      i,
      record {
        here = k;
        passes = ap p (same_some (sym k ∙ at.here)) ∙ at.passes;
        before = at.before;
        nodes = ap (λ o. nodes_of (with_node_there o d n)) e ∙ ap (λ x. x.nodes.items) (out-roll-KdlDocument (record (out-KdlDocument d) { nodes = with_item (out-KdlDocument d).nodes i n }));
      },
    )

-- a node with the name of another one
named_alike : (s : List ℕ) (x n : KdlNode) → (out-KdlNode n).name ≡ (out-KdlNode x).name → is_node_named s x ≡ true → is_node_named s n ≡ true
named_alike s x n k h = ap (λ i. same_text (string_bytes i.value) s) k ∙ h

-- a node has one name
other_node : (s r : List ℕ) (n : KdlNode) → is_node_named s n ≡ true → (s ≡ r → ⊥) → is_node_named r n ≡ false
other_node s r n h d = differ s r (string_bytes (out-KdlNode n).name.value) (is_node_named r n) d refl ((bytes_eq-Decides (string_bytes (out-KdlNode n).name.value) s).0 h)

-- the first node of that name, exchanged for one with the name that it had
pub node_found : (s : List ℕ) (x n : KdlNode) (d : KdlDocument) → node_named s d ≡ Some x → (out-KdlNode n).name ≡ (out-KdlNode x).name → node_named s (with_node_named s d n) ≡ Some n
node_found s x n d h k =
    let (i, at) = first_at s x n d h in
    let p = is_node_named s in
    let e = with_node_named s d n in
    let t = spliced p (x ∷ []) (n ∷ []) (nodes_of d) (nodes_of e) (splice_set (nodes_of d) (nodes_of e) i x n at.here at.nodes) in
    let is : filter p (n ∷ []) ≡ n ∷ [] = one_passes p n true (named_alike s x n k at.passes) in
    let own : Splice (filter p (x ∷ [])) (n ∷ []) (filter p (nodes_of d)) (filter p (nodes_of e)) = record { before = t.before; after = t.after; was = t.was; is = t.is ∙ ap (λ l. t.before ++ (l ++ t.after)) is } in
    find_first p (nodes_of e) ∙ got_new 0 (filter p (x ∷ [])) [] (filter p (nodes_of d)) (filter p (nodes_of e)) n own at.before

pub node_others : (s r : List ℕ) (x n : KdlNode) (d : KdlDocument) → node_named s d ≡ Some x → (out-KdlNode n).name ≡ (out-KdlNode x).name → (s ≡ r → ⊥) → node_named r (with_node_named s d n) ≡ node_named r d
node_others s r x n d h k f =
    let (i, at) = first_at s x n d h in
    let q = is_node_named r in
    let e = with_node_named s d n in
    let new = one_passes q n false (other_node s r n (named_alike s x n k at.passes) f) in
    let old = one_passes q x false (other_node s r x at.passes f) in
    let same = same_passing q (x ∷ []) (n ∷ []) (nodes_of d) (nodes_of e) (splice_set (nodes_of d) (nodes_of e) i x n at.here at.nodes) (new ∙ sym old) in
    find_first q (nodes_of e) ∙ ap (λ l. slice_get l 0) same ∙ sym (find_first q (nodes_of d))

-- a node with other entries has the name that it had
entries_keep_name : (n : KdlNode) (v : Vec KdlEntry Global) → (out-KdlNode (with_entries n v)).name ≡ (out-KdlNode n).name
entries_keep_name n v = ap (λ x. x.name) (out-roll-KdlNode (record (out-KdlNode n) { entries = v }))

-- what is written in the first node of that name
written_in : (s : List ℕ) (n : KdlNode) (d : KdlDocument) (w : KdlValue) → node_named s d ≡ Some n → with_argument_named s d w ≡ with_node_named s d (with_found_value (Index 0) n w)
written_in s n d w h = go (node_place s d) (sym (found_there (is_node_named s) (nodes_of d)) ∙ h)
  where
    go : (o : Option ℕ) → option_and_then (λ i. slice_get (nodes_of d) i) o ≡ Some n → with_argument_there o d w ≡ with_node_there o d (with_found_value (Index 0) n w)
    go None k = refl
    go (Some i) k = ap (λ o. with_argument_in d i o w) k

-- what is left once a value is written through the loan of the first argument of the first node of that name
pub argument_sets : (s : List ℕ) (d : KdlDocument) (o : Option KdlValue) → o ≡ held_value (argument_named s d) → IsSome o → (w : KdlValue) → IsSetIn s (value_tree w) d (with_argument_named s d w)
argument_sets s d None h t w = absurd (cc)
argument_sets s d (Some v) h t w = go (node_named s d) refl h
  where
    go : (o : Option KdlNode) → node_named s d ≡ o → Some v ≡ held_value (option_and_then first_argument o) → IsSetIn s (value_tree w) d (with_argument_named s d w)
    go None e k = absurd (none-some _ (sym k))
    go (Some n) e k =
        let m = with_found_value (Index 0) n w in
        let name : (out-KdlNode m).name ≡ (out-KdlNode n).name = entries_keep_name n _ in
        let set : IsArgumentSet 0 (value_tree w) n m = value_sets_at (λ (x : KdlValue). x) (Index 0) n (Some v) k refl w in
        let is = written_in s n d w e in
        record {
          found = ap (λ x. value_of (argument_named s x)) is ∙ ap (λ o. value_of (option_and_then first_argument o)) (node_found s n m d e name) ∙ set.found;
          others = λ r q. ap (node_named r) is ∙ node_others s r n m d e name q;
        }
