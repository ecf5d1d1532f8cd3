-- The data of a document, and its text, after an edit at a PATH.
use Rattle.std.specs.List.{remove}
use Rattle.std.specs.Prelude.{◌≡◌, ℕ, zero, suc, List, [], ◌∷◌, ◌++◌, Option, Some, None, IsSome, option_and_then, option_map}
use Rattle.kdl.specs.Words.{EntryData, IsDocument, IsNodeText, NodeData, Nodes, Text, Value, said_entries, said_nodes, said_without}
use Rattle.kdl.specs.Said.{has_key, has_no_key}
use Rattle.c_calls.specs.Entries.{IsValueText}
use Rattle.kdl_grammar.specs.Data as data'
use Rattle.kdl_parts.specs.EntryLists.{last_place, nth_place}
use Rattle.kdl_value.specs.Tree.{text_of}
use Rattle.kdl_path.specs.Paths.{at_path, node_at, step_place}
use Rattle.kdl_path.specs.declared.path.Path.{Path}
use Rattle.kdl_path.specs.declared.path.Step.{Step}
use Rattle.kdl_path.specs.declared.path.Target.{Target}
use Rattle.kdl_path.specs.declared.path.Target.TheVariants.{Node, Argument, Property}

-- nodes with the one at a place changed
abbrev pub with_nth : ℕ → (NodeData → NodeData) → Nodes → Nodes
with_nth i f data'.none = data'.none
with_nth zero f (data'.first n x) = data'.first (f n) x
with_nth (suc i) f (data'.first n x) = data'.first n (with_nth i f x)

abbrev pub with_there : Option ℕ → (NodeData → NodeData) → Nodes → Nodes
with_there None f x = x
with_there (Some i) f x = with_nth i f x

-- a node with the nodes in its block changed
abbrev pub with_block : (Nodes → Nodes) → NodeData → NodeData
with_block f (data'.node ty name es data'.no_children) = data'.node ty name es data'.no_children
with_block f (data'.node ty name es (data'.children x)) = data'.node ty name es (data'.children (f x))

-- a node with the one changed to which steps lead from it
abbrev pub changed_below : List Step → (NodeData → NodeData) → NodeData → NodeData
changed_below [] f n = f n
changed_below (s ∷ ss) f n = with_block (λ x. with_there (step_place s (said_nodes x)) (changed_below ss f) x) n

-- the nodes of a document with the one changed to which steps lead
abbrev pub changed_at : List Step → (NodeData → NodeData) → Nodes → Nodes
changed_at [] f x = x
changed_at (s ∷ ss) f x = with_there (step_place s (said_nodes x)) (changed_below ss f) x

-- the place of the entry that a target names: argument 0 for the node itself, the last property of a name
abbrev pub entry_place : Target → List EntryData → Option ℕ
entry_place Node es = nth_place has_no_key es 0
entry_place (Argument i) es = nth_place has_no_key es i
entry_place (Property s) es = last_place (has_key (text_of s)) es

-- entries with another value for the one at a place
abbrev pub with_value_nth : ℕ → Value → List EntryData → List EntryData
with_value_nth i v [] = []
with_value_nth zero v (e ∷ es) = record e { value = v } ∷ es
with_value_nth (suc i) v (e ∷ es) = e ∷ with_value_nth i v es

abbrev pub with_value_there : Option ℕ → Value → List EntryData → List EntryData
with_value_there None v es = es
with_value_there (Some i) v es = with_value_nth i v es

-- a node with another value for the entry that a target names
abbrev pub node_with_value : Target → Value → NodeData → NodeData
node_with_value t v (data'.node ty name es k) = data'.node ty name (with_value_there (entry_place t es) v es) k

-- the data of a document with another value at a PATH
abbrev pub with_value : Path → Value → Nodes → Nodes
with_value p v x = changed_at p.steps.items (node_with_value p.target v) x

-- between the two texts is the place of one value: with any value written there, in any spelling, the text is the document that f gives for it
abbrev pub IsPlaceOf : (Value → Nodes) → Text → Text → Type 0
IsPlaceOf f before after = (w : Text) (v : Value) → IsValueText w v → IsDocument (before ++ w ++ after) (f v)

-- out is the text with `given` in place of `was`, in the place of that value; all other bytes are unchanged
pub record IsExchangedAt (f : Value → Nodes) (was given text out : Text) : Type 0 where
  pub before : Text
  pub after : Text
  pub place : IsPlaceOf f before after
  pub old : text ≡ before ++ was ++ after
  pub new : out ≡ before ++ given ++ after

-- out is the text with VALUE in place of the bytes of the value at the PATH
pub record IsSetAt (p : Path) (given text out : Text) : Type 0 where
  pub value : Value
  pub reads : IsValueText given value
  pub was : Text
  pub former : (x : Nodes) → IsDocument text x → (v : Value) → at_path p x ≡ Some v → IsValueText was v
  pub bytes : (x : Nodes) → IsDocument text x → IsExchangedAt (λ v. with_value p v x) was given text out

-- nodes with one more at their end
abbrev pub with_last : NodeData → Nodes → Nodes
with_last y data'.none = data'.first y data'.none
with_last y (data'.first n x) = data'.first n (with_last y x)

-- a node with the nodes in its block changed, which is new if it has none
abbrev pub with_own_block : (Nodes → Nodes) → NodeData → NodeData
with_own_block f (data'.node ty name es data'.no_children) = data'.node ty name es (data'.children (f data'.none))
with_own_block f (data'.node ty name es (data'.children x)) = data'.node ty name es (data'.children (f x))

-- a node with one more node at the end of its block, or one more entry after the others
abbrev pub node_with_child : NodeData → NodeData → NodeData
node_with_child y n = with_own_block (with_last y) n

abbrev pub node_with_entry : EntryData → NodeData → NodeData
node_with_entry e (data'.node ty name es k) = data'.node ty name (es ++ (e ∷ [])) k

-- the entry that is made for a target: a property of its name, or an argument
abbrev pub new_entry : Target → Value → EntryData
new_entry (Property s) v = record { key = Some (text_of s); ty = None; value = v }
new_entry _ v = record { key = None; ty = None; value = v }

-- the node that is made for a step, with nothing in it
abbrev pub new_node : Step → NodeData
new_node s = data'.node None (text_of s.name) [] data'.no_children

-- nodes with the one at a place changed, or, where there is no place, with the new node y, changed, at their end
abbrev pub made_there : Option ℕ → NodeData → (NodeData → NodeData) → Nodes → Nodes
made_there None y f x = with_last (f y) x
made_there (Some i) y f x = with_nth i f x

-- a node with the one changed to which steps lead from it; the nodes that are missing are made
abbrev pub made_below : List Step → (NodeData → NodeData) → NodeData → NodeData
made_below [] f n = f n
made_below (s ∷ ss) f n = with_own_block (λ x. made_there (step_place s (said_nodes x)) (new_node s) (made_below ss f) x) n

-- the nodes of a document with the one changed to which steps lead; the nodes that are missing are made
abbrev pub made_at : List Step → (NodeData → NodeData) → Nodes → Nodes
made_at [] f x = x
made_at (s ∷ ss) f x = made_there (step_place s (said_nodes x)) (new_node s) (made_below ss f) x

-- the data of a document with a value, which is missing, made at a PATH
abbrev pub with_made : Path → Value → Nodes → Nodes
with_made p v x = made_at p.steps.items (node_with_entry (new_entry p.target v)) x

-- the data of out are those of the text with VALUE, which is missing, made at the PATH, where it is found then
pub record IsMadeAt (p : Path) (given text out : Text) : Type 0 where
  pub value : Value
  pub reads : IsValueText given value
  pub says : (x : Nodes) → IsDocument text x → IsDocument out (with_made p value x)
  pub found : (x : Nodes) → IsDocument text x → at_path p (with_made p value x) ≡ Some value

-- a node without the entry that a target names
abbrev pub without_nth : Option ℕ → List EntryData → List EntryData
without_nth None es = es
without_nth (Some i) es = remove es i

abbrev pub node_without_entry : Target → NodeData → NodeData
node_without_entry t (data'.node ty name es k) = data'.node ty name (without_nth (entry_place t es) es) k

-- the nodes of a document without the one to which steps lead
abbrev pub without_there : Option ℕ → Nodes → Nodes
without_there None x = x
without_there (Some i) x = said_without i x

abbrev pub without_node : List Step → Nodes → Nodes
without_node [] x = x
without_node (s ∷ []) x = without_there (step_place s (said_nodes x)) x
without_node (s ∷ t ∷ ss) x = with_there (step_place s (said_nodes x)) (with_block (without_node (t ∷ ss))) x

-- the data of a document without what a PATH names: the node, or the entry of it
abbrev pub without_target : Target → List Step → Nodes → Nodes
without_target Node ss x = without_node ss x
without_target (Argument i) ss x = changed_at ss (node_without_entry (Argument i)) x
without_target (Property s) ss x = changed_at ss (node_without_entry (Property s)) x

abbrev pub without : Path → Nodes → Nodes
without p x = without_target p.target p.steps.items x

-- the node that a PATH leads to, if it has the entry that the PATH names
abbrev pub with_target : Target → NodeData → Option NodeData
with_target Node n = Some n
with_target (Argument i) n = option_map (λ _. n) (entry_place (Argument i) (said_entries n))
with_target (Property s) n = option_map (λ _. n) (entry_place (Property s) (said_entries n))

abbrev pub named_at : Path → Nodes → Option NodeData
named_at p x = option_and_then (with_target p.target) (node_at p.steps.items (said_nodes x))

-- the data of a document with a node at the end of the block of the node to which steps lead, or of the document
abbrev pub with_node : List Step → NodeData → Nodes → Nodes
with_node [] y x = with_last y x
with_node (s ∷ ss) y x = changed_at (s ∷ ss) (node_with_child y) x

-- steps lead to the document, or to a node of it
abbrev pub HasPlace : List Step → Nodes → Type 0
HasPlace [] x = Unit {0}
HasPlace (s ∷ ss) x = IsSome (node_at (s ∷ ss) (said_nodes x))

-- the PATH names a block, NODE is one node, and the data of out are those of the text with that node at the end of the block
pub record IsInsertedAt (p : Path) (given text out : Text) : Type 0 where
  pub names : p.target ≡ Node
  pub node : NodeData
  pub reads : IsNodeText given node
  pub says : (x : Nodes) → IsDocument text x → IsDocument out (with_node p.steps.items node x)
