-- Edits: from what the changes make to what the calls say.
use Rattle.std.proofs.Common.{◌≡◌, ℕ, List, [], ◌∷◌, ◌++◌, Option, None, Some, IfErr, IfOk, IfSome, OnErr, OnOk, Result, Ok, Err, ap, ◌∙◌, sym, subst, option_map, slice_get, String, Global}
use Rattle.std.specs.Prelude.{option_and_then}
use Rattle.kdl_text.specs.Chars.{Text}
use Rattle.kdl_entry.specs.Laid.{LaidEntryText}
use Rattle.kdl_entry.specs.Tree.{Entry, EntryFormat, entry_tree, identifier_tree, plain_identifier}
use Rattle.kdl_entry.specs.declared.identifier.KdlIdentifier.{KdlIdentifier}
use Rattle.kdl_value.specs.Tree.{text_of, value_tree}
use Rattle.kdl_value.specs.declared.value.KdlValue.{KdlValue}
use Rattle.kdl.specs.Words.{document_tree, node_tree, nodes_of}
use Rattle.kdl.specs.declared.document.KdlDocument.{KdlDocument}
use Rattle.kdl.specs.declared.node.KdlNode.{KdlNode}
use Rattle.c_calls.specs.Answers.{Each}
use Rattle.c_calls.specs.Changes.{AtEntry, AtNode, changed_at}
use Rattle.c_calls.specs.Edits.{NodeNamed, ValueSet}
use Rattle.c_calls.specs.Entries.{IsValueText}
use Rattle.c_calls.specs.Internal.Done.{IsDone, IsDoneIn, changed_entry}
use Rattle.c_calls.specs.Internal.Given.{IsPlain, IsSpelled}
use Rattle.c_calls.specs.Internal.Opened.{IsOpened, plugged}
use Rattle.c_calls.specs.Paths.{node_at, nodes_at}
use Rattle.c_calls.specs.declared.entry_change.EntryChange.{EntryChange}
use Rattle.c_calls.specs.declared.entry_change.EntryChange.TheVariants as change
use Rattle.c_calls.specs.declared.node_change.NodeChange.{NodeChange}
use Rattle.c_calls.specs.declared.node_change.NodeChange.TheVariants.{ChangeEntry, SetName}
use Rattle.c_calls.specs.declared.opened.Opened.{Opened}
use Rattle.c_calls.proofs.ValueSteps.{value_laid}
use Rattle.c_calls.proofs.PathSteps.{last_step}

pub on_ok : {T E P Q : Type 0} (r : Result T E) → (P → Q) → OnOk r P → OnOk r Q
on_ok (Ok x) f h = f h
on_ok (Err x) f h = h

pub on_err : {T E P Q : Type 0} (r : Result T E) → (P → Q) → OnErr r P → OnErr r Q
on_err (Ok x) f h = h
on_err (Err x) f h = f h

pub if_err : {T E : Type 0} (r : Result T E) (P Q : E → Type 0) → ((e : E) → P e → Q e) → IfErr r P → IfErr r Q
if_err (Ok x) P Q f h = h
if_err (Err e) P Q f h = f e h

pub if_ok : {T E : Type 0} (r : Result T E) (P Q : T → Type 0) → ((x : T) → P x → Q x) → IfOk r P → IfOk r Q
if_ok (Ok x) P Q f h = f x h
if_ok (Err e) P Q f h = h

-- the node at a path is that in the block at the end of the path above it
there_at : (path above : List ℕ) (i : ℕ) (d w : KdlDocument) → path ≡ above ++ i ∷ [] → w ≡ d → (o : Option (List KdlNode)) → nodes_at above (nodes_of w) ≡ o
    → node_at path (nodes_of d) ≡ option_and_then (λ ms. slice_get ms i) o
there_at path above i d w whole same o at =
    ap (node_at path) (ap nodes_of (sym same)) ∙ ap (λ p. node_at p (nodes_of w)) whole ∙ last_step above i (nodes_of w) ∙ ap (option_and_then (λ ms. slice_get ms i)) at

pub absent_at : (path above : List ℕ) (i : ℕ) (d w : KdlDocument) (o : Opened) (P : KdlNode → Type 0) → path ≡ above ++ i ∷ [] → w ≡ d → IsOpened above w o
    → IfSome (slice_get (nodes_of o.block) i) P → IfSome (node_at path (nodes_of d)) P
absent_at path above i d w o P whole same h p =
    subst (λ q. IfSome q P) (sym (there_at path above i d w whole same (Some (nodes_of o.block)) (sym h.nodes))) p

none_some : (P : KdlNode → Type 0) (o : Option KdlNode) → o ≡ None → IfSome o P
none_some P None e = tt
none_some P (Some n) e = absurd (cc)

pub not_opened : (path above : List ℕ) (i : ℕ) (d w : KdlDocument) (P : KdlNode → Type 0) → path ≡ above ++ i ∷ [] → w ≡ d → nodes_at above (nodes_of w) ≡ None
    → IfSome (node_at path (nodes_of d)) P
not_opened path above i d w P whole same none = none_some P (node_at path (nodes_of d)) (there_at path above i d w whole same None none)

-- a change in the block at the end of a path
pub done_at : (path above : List ℕ) (i : ℕ) (c : NodeChange) (d e w : KdlDocument) (o : Opened) (b : KdlDocument) → path ≡ above ++ i ∷ [] → w ≡ d → IsOpened above w o
    → IsDoneIn i c o.block b → document_tree e ≡ plugged o.above.items (document_tree b) → AtNode path (IsDone c) d e
done_at path above i c d e w o b whole same h done closed = record {
  old = done.old;
  new = done.new;
  there = there_at path above i d w whole same (Some (nodes_of o.block)) (sym h.nodes) ∙ done.there;
  related = done.done;
  rest = closed ∙ ap (plugged o.above.items) done.rest ∙ h.changed i (node_tree done.new)
      ∙ ap (λ p. changed_at p (λ _. node_tree done.new) (document_tree w)) (sym whole) ∙ ap (λ x. changed_at path (λ _. node_tree done.new) (document_tree x)) same;
}

pub each_as : (R S : KdlDocument → KdlDocument → Type 0) → ((d e : KdlDocument) → R d e → S d e) → (x y : Option KdlDocument) → Each R x y → Each S x y
each_as R S f None y h = h
each_as R S f (Some d) None h = h
each_as R S f (Some d) (Some e) h = f d e h

at_as : (path : List ℕ) (R S : KdlNode → KdlNode → Type 0) → ((n m : KdlNode) → R n m → S n m) → (d e : KdlDocument) → AtNode path R d e → AtNode path S d e
at_as path R S f d e h = record { old = h.old; new = h.new; there = h.there; related = f h.old h.new h.related; rest = h.rest }

pub each_at : (path : List ℕ) (R S : KdlNode → KdlNode → Type 0) → ((n m : KdlNode) → R n m → S n m) → (x y : Option KdlDocument) → Each (AtNode path R) x y → Each (AtNode path S) x y
each_at path R S f = each_as (AtNode path R) (AtNode path S) (at_as path R S f)

entry_as : (i : ℕ) (R S : Entry → Entry → Type 0) → ((e f : Entry) → R e f → S e f) → (n m : KdlNode) → AtEntry i R n m → AtEntry i S n m
entry_as i R S f n m h = record { old = h.old; new = h.new; there = h.there; related = f (entry_tree h.old) (entry_tree h.new) h.related; entries = h.entries; rest = h.rest }

each_entry : (path : List ℕ) (i : ℕ) (c : EntryChange) (S : Entry → Entry → Type 0) → ((e : Entry) → S e (changed_entry c e)) → (x y : Option KdlDocument)
    → Each (AtNode path (IsDone (ChangeEntry i c))) x y → Each (AtNode path (AtEntry i S)) x y
each_entry path i c S f = each_at path (IsDone (ChangeEntry i c)) (AtEntry i S) (entry_as i (λ e f. f ≡ changed_entry c e) S (λ e g h. subst (S e) (sym h) (f e)))

pub value_set : (path : List ℕ) (i : ℕ) (t : Text) (v : KdlValue) (s : String Global) → IsSpelled t v s → (x y : Option KdlDocument)
    → Each (AtNode path (IsDone (ChangeEntry i (change.SetValue v s)))) x y → Each (AtNode path (AtEntry i (ValueSet t))) x y
value_set path i t v s h = each_entry path i (change.SetValue v s) (ValueSet t) (λ e. record {
  value = value_tree v;
  given = h.0;
  is = ap (λ (z : Text). record e { value = value_tree v; format = option_map (λ (g : EntryFormat). record g { value_repr = z }) e.format }) h.1;
})

-- an entry that is only a value, and is laid in a text
pub spelled_value : (t : Text) (e : Entry) (v : KdlValue) (s : String Global) → LaidEntryText t e → IsPlain e v s → IsSpelled t v s
spelled_value t e v s l p =
    let w = value_laid t e l p.alone in
    (subst (IsValueText t) (sym p.value) w.0, w.1 (text_of s) p.spelling)

pub node_named : (path : List ℕ) (t : Text) (w : KdlIdentifier) → identifier_tree w ≡ plain_identifier t → (x y : Option KdlDocument)
    → Each (AtNode path (IsDone (SetName w))) x y → Each (AtNode path (NodeNamed t)) x y
node_named path t w h = each_at path (IsDone (SetName w)) (NodeNamed t) (λ n m r. (w, h, r))
