-- The data of a document, and its text, after an edit at each node that a query selects.
use Rattle.std.specs.Cmp.Lexicographic.{pointwise}
use Rattle.std.specs.List.{list_any}
use Rattle.std.specs.Prelude.{◌≡◌, ◌==◌, ◌⊎◌, ℕ, suc, Bool, true, false, List, [], ◌∷◌, Option, Some, None, IsSome, option_and_then}
use Rattle.std.specs.Str.{chars}
use Rattle.kdl.specs.Words.{IsDocument, NodeData, Nodes, Text, Value}
use Rattle.kdl_grammar.specs.Data as data'
use Rattle.c_calls.specs.Entries.{IsValueText}
use Rattle.kdl_query.specs.Data.{Query}
use Rattle.kdl_query.specs.Selects.{IsSelected, IsSelection, Path, node_at}
use Rattle.kdl_path.specs.Edits.{IsExchangedAt, node_with_value, node_without_entry, with_target}
use Rattle.kdl_path.specs.Failures.{TextFails}
use Rattle.kdl_path.specs.Paths.{value_in}
use Rattle.kdl_path.specs.declared.failure.EditFailure.{EditFailure}
use Rattle.kdl_path.specs.declared.failure.EditFailure.TheVariants as edit
use Rattle.kdl_path.specs.declared.path.Target.{Target}
use Rattle.kdl_path.specs.declared.path.Target.TheVariants.{Node, Argument, Property}

-- a node, if there is one, before other nodes
abbrev pub with_first : Option NodeData → Nodes → Nodes
with_first None x = x
with_first (Some n) x = data'.first n x

-- a node, or what an edit gives in its place
abbrev pub edited_if : Bool → (NodeData → Option NodeData) → NodeData → Option NodeData
edited_if true f n = f n
edited_if false f n = Some n

abbrev mutual
  -- nodes from the place i on, and those inside them: for each at a path that s has, f gives the node in its place, or none
  pub edited_where : (Path → Bool) → (NodeData → Option NodeData) → ℕ → Nodes → Nodes
  edited_where s f i data'.none = data'.none
  edited_where s f i (data'.first n x) = with_first (edited_if (s (i ∷ [])) f (edited_inside (λ p. s (i ∷ p)) f n)) (edited_where s f (suc i) x)

  pub edited_inside : (Path → Bool) → (NodeData → Option NodeData) → NodeData → NodeData
  edited_inside s f (data'.node ty name es data'.no_children) = data'.node ty name es data'.no_children
  edited_inside s f (data'.node ty name es (data'.children x)) = data'.node ty name es (data'.children (edited_where s f 0 x))

-- the path is one of these
abbrev pub is_among : List Path → Path → Bool
is_among ps p = list_any (pointwise ◌==◌ p) ps

-- the nodes of a document with an edit of those at the paths
abbrev pub edited_at : List Path → (NodeData → Option NodeData) → Nodes → Nodes
edited_at ps f x = edited_where (is_among ps) f 0 x

-- the nodes of a document with another value for the entry that a target names in each node at the paths
abbrev pub with_value_at : List Path → Target → Value → Nodes → Nodes
with_value_at ps t v x = edited_at ps (λ n. Some (node_with_value t v n)) x

-- a node without the entry that a target names, or no node
abbrev pub removed : Target → NodeData → Option NodeData
removed Node n = None
removed (Argument i) n = Some (node_without_entry (Argument i) n)
removed (Property s) n = Some (node_without_entry (Property s) n)

-- the value that a target names in the node at a path, and that node if it has the entry that the target names
abbrev pub value_at : Target → Nodes → Path → Option Value
value_at t x p = option_and_then (value_in t) (node_at p x)

abbrev pub named_node : Target → Nodes → Path → Option NodeData
named_node t x p = option_and_then (with_target t) (node_at p x)

-- these are the paths that the query selects, at least one, and something is found at each
pub record FindsAtEach {A : Type 0} (x : Nodes) (q : Query) (find : Path → Option A) (ps : List Path) : Type 0 where
  pub selection : IsSelection x q ps
  pub some : ps ≡ [] → ⊥
  pub each : (p : Path) → IsSelected x q p → IsSome (find p)

-- the query selects no path, or one at which nothing is found
abbrev pub FindsNone : {A : Type 0} → Nodes → Query → (Path → Option A) → Type 0
FindsNone x q find = ((p : Path) → ¬ IsSelected x q p) ⊎ ((p : Path) × IsSelected x q p × (find p ≡ None))

-- the text after exchanges: at each of the paths, from the last to the first, the text `given`, which represents v, in place of the bytes of the value there
pub data AreExchanged (x : Nodes) (t : Target) (v : Value) (given : Text) : List Path → Text → Text → Type 0 where
  nothing : {text : Text} → AreExchanged x t v given [] text text
  exchange : {p : Path} {ps : List Path} {text between out : Text} (was : Text) → ((w : Value) → value_at t x p ≡ Some w → IsValueText was w)
      → AreExchanged x t v given ps text between → IsExchangedAt (λ w. with_value_at (p ∷ []) t w (with_value_at ps t v x)) was given between out → AreExchanged x t v given (p ∷ ps) text out

-- out is the text with VALUE in place of the bytes of the value that the target names in each node that the query selects, and its data are x, those of the
-- text, with the new value there
pub record IsSetAtEach (x : Nodes) (q : Query) (t : Target) (given text out : Text) : Type 0 where
  pub paths : List Path
  pub found : FindsAtEach x q (value_at t x) paths
  pub value : Value
  pub reads : IsValueText given value
  pub says : IsDocument out (with_value_at paths t value x)
  pub bytes : AreExchanged x t value given paths text out

-- the data of out are x without each node that the query selects, or without the entry that the target names in each
pub record IsRemovedAtEach (x : Nodes) (q : Query) (t : Target) (out : Text) : Type 0 where
  pub paths : List Path
  pub found : FindsAtEach x q (named_node t x) paths
  pub says : IsDocument out (edited_at paths (removed t) x)

-- `set_each` fails: VALUE is no value, the text is no document, or the query selects nothing in it, or a node without the value; or memory runs out
abbrev pub SetEachFails : Query → Target → List ℕ → List ℕ → EditFailure → Type 0
SetEachFails q t given text edit.Value = (v : Value) → IsValueText (chars given) v → ⊥
SetEachFails q t given text (edit.Text e) = TextFails text e
SetEachFails q t given text (edit.Missing m) = (x : Nodes) × IsDocument (chars text) x × FindsNone x q (value_at t x)
SetEachFails q t given text edit.Memory = Unit {0}
SetEachFails q t given text _ = ⊥

-- `remove_each` fails: the text is no document, or the query selects nothing in it, or a node without the entry; or memory runs out
abbrev pub RemoveEachFails : Query → Target → List ℕ → EditFailure → Type 0
RemoveEachFails q t text (edit.Text e) = TextFails text e
RemoveEachFails q t text (edit.Missing m) = (x : Nodes) × IsDocument (chars text) x × FindsNone x q (named_node t x)
RemoveEachFails q t text edit.Memory = Unit {0}
RemoveEachFails q t text _ = ⊥
