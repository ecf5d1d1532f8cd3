-- The texts after an edit, and what they had to have before.
use Rattle.std.proofs.Common.{◌≡◌, ℕ, List, [], ◌∷◌, Option, None, Some, IsSome, Ok, option_and_then, option_map, String, Global, string_bytes, refl, ap, ◌∙◌, sym, subst}
use Rattle.std.proofs.lemmas.Option.{none-some}
use Rattle.std.specs.Str.{encode_utf8_all}
use Rattle.kdl_text.specs.Chars.{Text}
use Rattle.kdl_layout.proofs.Texts.{printed_text}
use Rattle.kdl_grammar.specs.Data as nodes'
use Rattle.kdl_grammar.specs.Grammar.{IsDocument, IsNodeText}
use Rattle.kdl_value.specs.Tree.{text_of}
use Rattle.kdl.specs.DocumentLookups.{nodes_of}
use Rattle.kdl.specs.Lookups.{entries_of}
use Rattle.kdl.specs.ReadsBack.{DocumentReadsBack, NodeReadsBack}
use Rattle.kdl.specs.Said.{said_entries, said_nodes}
use Rattle.kdl.specs.Tree.{document_prints, document_says, node_says}
use Rattle.kdl.specs.declared.document.KdlDocument.{KdlDocument}
use Rattle.kdl.specs.declared.node.KdlNode.{KdlNode}
use Rattle.kdl.proofs.Finding.SaidLookups.{entries_said}
use Rattle.kdl.proofs.ReadingBack.{document_derived}
use Rattle.c_calls.specs.Changes.{AtNode}
use Rattle.kdl_path.specs.Edits.{HasPlace, IsInsertedAt, entry_place, named_at, with_node, with_target, without, without_target}
use Rattle.kdl_path.specs.Internal.Changed.{IsChildPushed}
use Rattle.kdl_path.specs.Internal.Done.{IsNamed, IsNodeRemoved, IsPutAt, IsRemovedAt, LeadsTo}
use Rattle.kdl_path.specs.Internal.Laid.{IsLaid}
use Rattle.kdl_path.specs.Internal.Located.{Leads, place_of_target}
use Rattle.kdl_path.specs.Paths.{node_at}
use Rattle.kdl_path.specs.declared.path.Path.{Path}
use Rattle.kdl_path.specs.declared.path.Step.{Step}
use Rattle.kdl_path.specs.declared.path.Target.{Target}
use Rattle.kdl_path.specs.declared.path.Target.TheVariants.{Node, Argument, Property}
use Rattle.kdl_path.proofs.Failing.{none_is_some}
use Rattle.kdl_path.proofs.Places.{leads_said, target_said}
use Rattle.kdl_path.proofs.Removed.{child_put, no_leads}

-- the text of a document
pub out_says : (e : KdlDocument) (out : String Global) (x : nodes'.Nodes) → string_bytes out ≡ encode_utf8_all (document_prints e) → DocumentReadsBack e → document_says e ≡ x → IsDocument (text_of out) x
out_says e out x bytes reads says =
    let printed : text_of out ≡ document_prints e = printed_text {E = Unit {0}} (Ok out) (document_prints e) bytes in
    subst (λ (z : nodes'.Nodes). IsDocument (text_of out) z) says (subst (λ (z : Text). IsDocument z (document_says e)) (sym printed) (document_derived e reads))

pub removed_text : (p : Path) (text : Text) (d e : KdlDocument) (out : String Global) → ((z : nodes'.Nodes) → IsDocument text z → z ≡ document_says d) → DocumentReadsBack d → (DocumentReadsBack d → IsRemovedAt p.steps.items p.target d e)
    → string_bytes out ≡ encode_utf8_all (document_prints e) → (x : nodes'.Nodes) → IsDocument text x → IsDocument (text_of out) (without p x)
removed_text p text d e out only reads removed bytes x y = let h = removed reads in out_says e out (without p x) bytes h.reads (h.says ∙ ap (without p) (sym (only x y)))

pub inserted_text : (p : Path) (given text : Text) (n : KdlNode) (d e : KdlDocument) (out : String Global) → p.target ≡ Node → IsNodeText given (node_says n) → NodeReadsBack n
    → ((z : nodes'.Nodes) → IsDocument text z → z ≡ document_says d) → DocumentReadsBack d → (NodeReadsBack n → DocumentReadsBack d → IsPutAt p.steps.items (node_says n) d e)
    → string_bytes out ≡ encode_utf8_all (document_prints e) → IsInsertedAt p given text (text_of out)
inserted_text p given text n d e out names found ends only reads put bytes =
    let h = put ends reads in
    record {
      names = names;
      node = node_says n;
      reads = found;
      says = λ x y. out_says e out (with_node p.steps.items (node_says n) x) bytes h.reads (h.says ∙ ap (with_node p.steps.items (node_says n)) (sym (only x y)));
    }

-- what is removed is there
some_mapped : {A B : Type 0} (o : Option A) (i : A) (b : B) → o ≡ Some i → IsSome (option_map (λ _. b) o)
some_mapped o i b h = subst (λ (o : Option _). IsSome (option_map (λ _. b) o)) (sym h) refl

entry_named : (t : Target) (n : KdlNode) (i : ℕ) → place_of_target t (entries_of n) ≡ Some i → entry_place t (said_entries (node_says n)) ≡ Some i
entry_named t n i h = ap (entry_place t) (sym (entries_said n)) ∙ sym (target_said t (entries_of n)) ∙ h

pub target_named : (t : Target) (n : KdlNode) (o : Option ℕ) → IsNamed t n o → IsSome (with_target t (node_says n))
target_named Node n o h = refl
target_named (Argument k) n None h = absurd (cc)
target_named (Argument k) n (Some i) h = some_mapped (entry_place (Argument k) (said_entries (node_says n))) i (node_says n) (entry_named (Argument k) n i h.1)
target_named (Property s) n None h = absurd (cc)
target_named (Property s) n (Some i) h = some_mapped (entry_place (Property s) (said_entries (node_says n))) i (node_says n) (entry_named (Property s) n i h.1)

pub removed_there : (p : Path) (is : List ℕ) (d : KdlDocument) (n : KdlNode) (o : Option ℕ) → Leads p.steps.items is (nodes_of d) None n → IsNamed p.target n o → IsSome (named_at p (document_says d))
removed_there p is d n o leads named =
    subst (λ (o : Option nodes'.Node). IsSome (option_and_then (with_target p.target) o)) (sym (leads_said p.steps.items is d n leads)) (target_named p.target n o named)

-- what is missing is not there
pub target_missing : (t : Target) (n : KdlNode) → (t ≡ Node → ⊥) → place_of_target t (entries_of n) ≡ None → with_target t (node_says n) ≡ None
target_missing Node n f h = absurd (f refl)
target_missing (Argument k) n f h =
    ap (option_map (λ _. node_says n)) (ap (entry_place (Argument k)) (sym (entries_said n)) ∙ sym (target_said (Argument k) (entries_of n)) ∙ h)
target_missing (Property s) n f h =
    ap (option_map (λ _. node_says n)) (ap (entry_place (Property s)) (sym (entries_said n)) ∙ sym (target_said (Property s) (entries_of n)) ∙ h)

pub entry_missing : (p : Path) (is : List ℕ) (d : KdlDocument) (n : KdlNode) → Leads p.steps.items is (nodes_of d) None n → (p.target ≡ Node → ⊥) × (place_of_target p.target (entries_of n) ≡ None) → named_at p (document_says d) ≡ None
entry_missing p is d n leads h = ap (option_and_then (with_target p.target)) (leads_said p.steps.items is d n leads) ∙ target_missing p.target n h.0 h.1

pub node_missing : (p : Path) (x : nodes'.Nodes) → node_at p.steps.items (said_nodes x) ≡ None → named_at p x ≡ None
node_missing p x h = ap (option_and_then (with_target p.target)) h

-- the node itself is removed
pub node_removed : (ss : List Step) (t : Target) (d e : KdlDocument) → t ≡ Node → IsNodeRemoved ss d e → IsRemovedAt ss t d e
node_removed ss t d e own h = record { reads = h.reads; says = h.says ∙ sym (ap (λ t. without_target t ss (document_says d)) own) }

-- a place in the document
pub place_there : (ss : List Step) (is : List ℕ) (d : KdlDocument) → LeadsTo ss is (nodes_of d) → HasPlace ss (document_says d)
place_there [] is d h = tt
place_there (s ∷ ss) is d (n, h) = subst (λ (o : Option nodes'.Node). IsSome o) (sym (leads_said (s ∷ ss) is d n h)) refl

pub leads_to : (ss : List Step) (is : List ℕ) (ns : List KdlNode) (n : KdlNode) → Leads ss is ns None n → LeadsTo ss is ns
leads_to [] is ns n h = absurd (no_first is h)
  where
    no_first : (is : List ℕ) → Leads [] is ns None n → ⊥
    no_first [] h = none-some n h
    no_first (i ∷ is) h = h
leads_to (s ∷ ss) is ns n h = (n, h)

pub no_place : (ss : List Step) (x : nodes'.Nodes) → (ss ≡ [] → ⊥) → node_at ss (said_nodes x) ≡ None → HasPlace ss x → ⊥
no_place [] x f h p = f refl
no_place (s ∷ ss) x f h p = none_is_some (node_at (s ∷ ss) (said_nodes x)) h p

pub no_steps : (ss : List Step) (ns : List KdlNode) → ss ≡ [] → LeadsTo ss [] ns
no_steps ss ns h = subst (λ (l : List Step). LeadsTo l [] ns) (sym h) refl

-- a node put into the document, or into a block of it
pub put_in_document : (ss : List Step) (is : List ℕ) (d e : KdlDocument) (n m : KdlNode) → LeadsTo ss is (nodes_of d) → is ≡ [] → IsLaid n m → document_says e ≡ with_node [] (node_says m) (document_says d) → DocumentReadsBack e → IsPutAt ss (node_says n) d e
put_in_document [] is d e n m h k l says reads = record { reads = reads; says = says ∙ ap (λ y. with_node [] y (document_says d)) l.says }
put_in_document (s ∷ ss) is d e n m (k, h) none l says reads = absurd (no_leads (s ∷ ss) (nodes_of d) k (subst (λ (is : List ℕ). Leads (s ∷ ss) is (nodes_of d) None k) none h))

pub put_in_block : (ss : List Step) (is : List ℕ) (d e : KdlDocument) (n m : KdlNode) → LeadsTo ss is (nodes_of d) → (is ≡ [] → ⊥) → IsLaid n m → AtNode is (IsChildPushed m) d e → NodeReadsBack n → DocumentReadsBack d → IsPutAt ss (node_says n) d e
put_in_block [] is d e n m h full l at reads r = absurd (full h)
put_in_block (s ∷ ss) is d e n m (k, h) full l at reads r =
    let x = child_put s ss is d e k m h at (l.reads _ reads) r in
    record { reads = x.reads; says = x.says ∙ ap (λ y. with_node (s ∷ ss) y (document_says d)) l.says }
