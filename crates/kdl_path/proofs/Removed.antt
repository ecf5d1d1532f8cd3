-- A document without a node, or without an entry, and one with a node more.
use Rattle.std.proofs.Common.{◌≡◌, ◌≤◌, ◌==◌, ℕ, zero, suc, Bool, true, false, length, arith, eq-eqb, List, [], ◌∷◌, ◌++◌, None, Some, Option, refl, ap, ◌∙◌, sym, subst}
use Rattle.std.proofs.lemmas.Option.{none-some}
use Rattle.kdl_grammar.specs.Data as data'
use Rattle.kdl_grammar.specs.ReadsBack.{DocumentReads}
use Rattle.kdl_grammar.specs.Tree as tree
use Rattle.kdl_grammar.specs.Tree.{document_data, nodes_data}
use Rattle.kdl.specs.DocumentLookups.{nodes_of}
use Rattle.kdl.specs.Lookups.{entries_of}
use Rattle.kdl.specs.ReadsBack.{DocumentReadsBack, NodeReadsBack, ReadsAs}
use Rattle.kdl.specs.Nodes.{said_without}
use Rattle.kdl.specs.Tree.{document_says, document_tree, node_says, node_tree, nodes_tree}
use Rattle.kdl.proofs.Trees.{document_tree_out}
use Rattle.kdl.specs.declared.document.KdlDocument.{KdlDocument}
use Rattle.kdl.specs.declared.node.KdlNode.{KdlNode}
use Rattle.c_calls.specs.Changes.{AtNode}
use Rattle.c_calls.specs.Entries.{EntryRemoved}
use Rattle.c_calls.specs.Paths.{node_at}
use Rattle.kdl_path.specs.Edits.{changed_at, node_with_child, node_without_entry, with_block, with_nth, without_node, without_target, without_there}
use Rattle.kdl_path.specs.Internal.Changed.{IsChildPushed, IsChildRemoved}
use Rattle.kdl_path.specs.Internal.Done.{IsNodeRemoved, IsPutAt, IsRemovedAt}
use Rattle.kdl_path.specs.Internal.Located.{Leads, place_of_target}
use Rattle.kdl_path.specs.Internal.OnEach.{Edit}
use Rattle.kdl_path.specs.declared.path.Step.{Step}
use Rattle.kdl_path.specs.declared.path.Target.{Target}
use Rattle.kdl_path.specs.declared.path.Target.TheVariants.{Node, Argument, Property}
use Rattle.kdl_path.proofs.Along.{changed_along}
use Rattle.kdl_path.proofs.Trees.{IsAt, at_tree, reads_at, says_at}
use Rattle.kdl_path.proofs.Places.{leads_at, step_said}
use Rattle.kdl_path.proofs.Removals.{Parent, changed_without, child_removed_reads, child_removed_says, parent, removed_reads, removed_says}
use Rattle.std.proofs.lemmas.Bool.{eqb-true}

same_node : (a b : KdlNode) (o : Option KdlNode) → o ≡ Some a → o ≡ Some b → a ≡ b
same_node a b o h k = cc

-- e reads back, and its data are those of d with the node at the end of the steps changed
pub record NodeChanged (ss : List Step) (g : data'.Node → data'.Node) (d e : KdlDocument) : Type 0 where
  pub reads : DocumentReadsBack e
  pub says : document_says e ≡ changed_at ss g (document_says d)

pub node_changed : (ss : List Step) (is : List ℕ) (d e : KdlDocument) (n : KdlNode) (R : KdlNode → KdlNode → Type 0) (g : data'.Node → data'.Node) → Leads ss is (nodes_of d) None n → AtNode is R d e
    → ((m : KdlNode) → R n m → ReadsAs n m) → ((m : KdlNode) → R n m → node_says m ≡ g (node_says n)) → DocumentReadsBack d → NodeChanged ss g d e
node_changed ss is d e n R g leads h reads says r =
    let at : node_at is (nodes_of d) ≡ Some n = leads_at ss is (nodes_of d) n leads in
    let s : R n h.new = subst (λ (k : KdlNode). R k h.new) (same_node h.old n _ h.there at) h.related in
    let there : IsAt is (document_tree d) (node_tree n) = at_tree is d n at in
    let m : tree.Node → tree.Node = λ _. node_tree h.new in
    let edit : Edit = λ i x. with_nth i g x in
    record {
      reads = subst DocumentReads (sym h.rest) ((reads_at is (document_tree d) (node_tree n) there r).changed m (reads h.new s));
      says = ap document_data h.rest ∙ says_at m g edit is (document_tree d) (node_tree n) (says h.new s) (λ i x. refl) there ∙ sym (changed_along g edit (λ i x. refl) ss is d n leads);
    }

-- an entry removed
without_entry : (t : Target) (ss : List Step) (x : data'.Nodes) → (t ≡ Node → ⊥) → changed_at ss (node_without_entry t) x ≡ without_target t ss x
without_entry Node ss x h = absurd (h refl)
without_entry (Argument i) ss x h = refl
without_entry (Property s) ss x h = refl

pub entry_removed : (ss : List Step) (t : Target) (is : List ℕ) (d e : KdlDocument) (n : KdlNode) (i : ℕ) → Leads ss is (nodes_of d) None n → Some i ≡ place_of_target t (entries_of n) → (t ≡ Node → ⊥) → AtNode is (EntryRemoved i) d e
    → DocumentReadsBack d → IsRemovedAt ss t d e
entry_removed ss t is d e n i leads place entry h r =
    let x = node_changed ss is d e n (EntryRemoved i) (node_without_entry t) leads h (λ m k. removed_reads n m i k) (λ m k. removed_says t n m i (sym place) k) r in
    record { reads = x.reads; says = x.says ∙ without_entry t ss (document_says d) entry }

-- a node removed from a block
pub child_removed : (ss : List Step) (j : ℕ) (is : List ℕ) (i : ℕ) (d e : KdlDocument) (n : KdlNode) → Leads ss (j ∷ is ++ i ∷ []) (nodes_of d) None n → AtNode (j ∷ is) (IsChildRemoved i) d e → DocumentReadsBack d → IsNodeRemoved ss d e
child_removed ss j is i d e n leads h r = go (parent ss j is i (nodes_of d) None n leads)
  where
    whole : (above : List Step) (s : Step) (k : KdlNode) → Leads above (j ∷ is) (nodes_of d) None k → (x : data'.Nodes) → changed_at above (with_block (without_node (s ∷ []))) x ≡ without_node (above ++ s ∷ []) x
    whole [] s k l x = absurd l
    whole (t ∷ above) s k l x = changed_without t above s x

    go : Parent ss (j ∷ is) i (nodes_of d) None → IsNodeRemoved ss d e
    go p =
        let g = with_block (without_node (p.last ∷ [])) in
        let x = node_changed p.above (j ∷ is) d e p.node (IsChildRemoved i) g p.leads h (λ m k. child_removed_reads p.node m i k) (λ m k. child_removed_says p.last p.node m i p.place k) r in
        record { reads = x.reads; says = x.says ∙ whole p.above p.last p.node p.leads (document_says d) ∙ ap (λ l. without_node l (document_says d)) (sym p.steps) }

-- a node put into a block
pub child_put : (s : Step) (ss : List Step) (is : List ℕ) (d e : KdlDocument) (n c : KdlNode) → Leads (s ∷ ss) is (nodes_of d) None n → AtNode is (IsChildPushed c) d e → NodeReadsBack c → DocumentReadsBack d → IsPutAt (s ∷ ss) (node_says c) d e
child_put s ss is d e n c leads h b r =
    let x = node_changed (s ∷ ss) is d e n (IsChildPushed c) (node_with_child (node_says c)) leads h (λ m k. k.reads b) (λ m k. k.says) r in
    record { reads = x.reads; says = x.says }

-- no indices lead to no node
pub no_leads : (ss : List Step) (ns : List KdlNode) (n : KdlNode) → Leads ss [] ns None n → ⊥
no_leads [] ns n h = absurd (none-some n h)
no_leads (s ∷ ss) ns n h = h

-- a node removed from the document
pub first_removed : (ss : List Step) (i : ℕ) (d e : KdlDocument) (n : KdlNode) → Leads ss (i ∷ []) (nodes_of d) None n → document_says e ≡ said_without i (document_says d) → DocumentReadsBack e → IsNodeRemoved ss d e
first_removed [] i d e n h s r = absurd h
first_removed (t ∷ []) i d e n h s r = record { reads = r; says = s ∙ ap (λ o. without_there o (document_says d)) (sym (step_said t d i h.1)) }
first_removed (t ∷ u ∷ ss) i d e n h s r = absurd h.3

-- or from the block of a node
pub above_removed : (ss : List Step) (above : List ℕ) (i : ℕ) (d e : KdlDocument) (n : KdlNode) → (above ≡ [] → ⊥) → Leads ss (above ++ i ∷ []) (nodes_of d) None n → AtNode above (IsChildRemoved i) d e → DocumentReadsBack d → IsNodeRemoved ss d e
above_removed ss [] i d e n full h at r = absurd (full refl)
above_removed ss (j ∷ is) i d e n full h at r = child_removed ss j is i d e n h at r

pub nonempty : (b : Bool) (xs : List ℕ) → b ≡ (length xs == 0) → b ≡ false → xs ≡ [] → ⊥
nonempty b xs e f h = let g : (length xs == 0) ≡ true = eq-eqb (length xs) 0 (ap length h) in absurd (cc)

pub no_length : (xs : List ℕ) → length xs ≡ 0 → xs ≡ []
no_length [] h = refl
no_length (x ∷ xs) h = absurd (omega arith)

pub emptied : (b : Bool) (xs : List ℕ) → b ≡ (length xs == 0) → b ≡ true → xs ≡ []
emptied b xs e f = no_length xs (eqb-true (length xs) 0 (sym e ∙ f))

-- nothing is removed past the end
past_without : (ns : List KdlNode) (i : ℕ) → length ns ≤ i → nodes_data (nodes_tree ns) ≡ said_without i (nodes_data (nodes_tree ns))
past_without [] i h = refl
past_without (n ∷ ns) zero h = absurd (omega arith)
past_without (n ∷ ns) (suc i) h = ap (data'.first (node_says n)) (past_without ns i (omega arith))

pub document_past : (d : KdlDocument) (i : ℕ) → length (nodes_of d) ≤ i → document_says d ≡ said_without i (document_says d)
document_past d i h =
    let own : document_says d ≡ nodes_data (nodes_tree (nodes_of d)) = ap document_data (document_tree_out d) in
    own ∙ past_without (nodes_of d) i h ∙ ap (said_without i) (sym own)
