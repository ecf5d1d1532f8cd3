-- Which rule is broken where in a document, given the data of the document.
use Rattle.std.specs.List.{list_any}
use Rattle.std.specs.Option.{option_map_or}
use Rattle.std.specs.Prelude.{◌≡◌, ℕ, Bool, true, not, ◌&&◌, ◌||◌, nat_le, if◌then◌else◌, List, [], ◌∷◌, ◌++◌, Contains, chars, filter, find, length, map, Option, Some, is_some, codes}
use Rattle.kdl.specs.Words.{EntryData, NodeData, Value, block_of as child_block, entries_of, entry_data, entry_tree, integer_value, node_says, node_span_of, nodes_of, said_arguments, text_value, truth_value}
use Rattle.kdl.specs.Said.{has_key, has_no_key, is_called}
use Rattle.kdl.specs.declared.KdlEntry.{KdlEntry}
use Rattle.kdl.specs.declared.SourceSpan.{SourceSpan}
use Rattle.kdl.specs.declared.document.KdlDocument.{KdlDocument}
use Rattle.kdl.specs.declared.node.KdlNode.{KdlNode}
use Rattle.use_files.specs.declared.schema.Breach.{Breach}
use Rattle.use_files.specs.declared.schema.Due.{Due}
use Rattle.use_files.specs.declared.schema.Kind.{Kind}
use Rattle.use_files.specs.declared.schema.Kind.TheVariants.{Text, Whole, Boolean}
use Rattle.use_files.specs.declared.schema.Rule.{Rule}

-- the value is of that kind
abbrev pub is_kind : Kind → Value → Bool
is_kind Text v = is_some (text_value v)
is_kind Whole v = is_some (integer_value v)
is_kind Boolean v = is_some (truth_value v)

-- the data of an entry are a property of that name and kind
abbrev pub is_property : EntryData → List ℕ → Kind → Bool
is_property e name kind = has_key (chars name) e && is_kind kind e.value

-- it is a property that the rule has
abbrev pub is_listed : Rule → EntryData → Bool
is_listed r e = list_any (λ p. is_property e p.0.now p.1) r.properties.now

-- it is an argument, or such a property
abbrev pub is_entry : Rule → EntryData → Bool
is_entry r e = has_no_key e || is_listed r e

-- the data of an entry in memory
abbrev pub entry_says : KdlEntry → EntryData
entry_says e = entry_data (entry_tree e)

-- a node has as many arguments as the rule allows
abbrev pub has_arguments : Rule → NodeData → Bool
has_arguments r n = nat_le r.arguments.0 (length (said_arguments n)) && nat_le (length (said_arguments n)) r.arguments.1

-- it is allowed in the block of a node of that rule
abbrev pub is_allowed : Rule → NodeData → Bool
is_allowed above n = list_any (λ name. is_called (chars name.now) n) above.children.now

-- the first rule of its name
abbrev pub rule_of : List Rule → NodeData → Option Rule
rule_of rules n = find (λ r. is_called (chars r.name.now) n) rules

-- a breach, with its text as bytes
pub record BreachView : Type 0 where
  pub span : SourceSpan
  pub what : List ℕ

abbrev pub breach_view : Breach → BreachView
breach_view b = record { span = b.span; what = b.what.now }

-- the breach of a node that has too few arguments, or too many
abbrev pub argument_breaches : Rule → KdlNode → List BreachView
argument_breaches r n = if has_arguments r (node_says n) then [] else record { span = node_span_of n; what = codes "too few or too many arguments" } ∷ []

-- those of the entries that are not allowed in such a node
abbrev pub entry_breaches : Rule → List KdlEntry → List BreachView
entry_breaches r es = map (λ e. record { span = (entry_tree e).span; what = codes "a property that is not known, or of another type" }) (filter (λ e. not (is_entry r (entry_says e))) es)

-- both, of a node that has that rule
abbrev pub own_breaches : Rule → KdlNode → List BreachView
own_breaches r n = argument_breaches r n ++ entry_breaches r (entries_of n)

-- the breaches of a node in a block of the rule `above`, without those in its own block
abbrev pub breaches_at : List Rule → Rule → KdlNode → List BreachView
breaches_at rules above n =
    if is_allowed above (node_says n) then option_map_or (λ r. own_breaches r n) (rule_of rules (node_says n)) []
    else record { span = node_span_of n; what = codes "a node that is not allowed here" } ∷ []

-- a breach among nodes in a block of the rule `above`: of one of them, or in the block of one that is allowed there and has a rule
pub data IsBreach (rules : List Rule) : Rule → List KdlNode → BreachView → Type 0 where
  at : {above : Rule} {ns : List KdlNode} {n : KdlNode} {b : BreachView} → Contains ns n → Contains (breaches_at rules above n) b → IsBreach rules above ns b
  below : {above r : Rule} {ns : List KdlNode} {n : KdlNode} {d : KdlDocument} {b : BreachView} → Contains ns n → is_allowed above (node_says n) ≡ true → rule_of rules (node_says n) ≡ Some r → child_block n ≡ Some d
      → IsBreach rules r (nodes_of d) b → IsBreach rules above ns b

-- a breach in the document; the first rule is that of the top, and without rules there is no breach
abbrev pub IsBreachIn : List Rule → KdlDocument → BreachView → Type 0
IsBreachIn [] d b = ⊥
IsBreachIn (top ∷ rules) d b = IsBreach (top ∷ rules) top (nodes_of d) b

-- nodes, and the rule of the block that they are in
pub record Block : Type 0 where
  pub nodes : List KdlNode
  pub above : Rule

abbrev pub block_of : Due → Block
block_of d = record { nodes = d.nodes.now; above = d.above.now }

-- the block of a node, if it is to be checked
abbrev pub blocks_at : List Rule → Rule → KdlNode → List Block
blocks_at rules above n =
    if is_allowed above (node_says n) then option_map_or (λ r. option_map_or (λ d. record { nodes = nodes_of d; above = r } ∷ []) (child_block n) []) (rule_of rules (node_says n)) [] else []
