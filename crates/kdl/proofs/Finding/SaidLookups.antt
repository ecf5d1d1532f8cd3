-- What look-ups find in memory is what the data say, and data that are the same are the same to each look-up.
use Rattle.kdl.proofs.Common.{Bor, ◌≡◌, ℕ, Bool, true, false, List, [], ◌∷◌, map, Option, Some, None, is_none, is_some, option_and_then, option_map, slice_get, string_bytes, refl, ap, ◌∙◌, sym, cond, slice_get-map, bytes_eq-Decides, IsUtf8-string_bytes, encodes-chars, encodes, one_answer, cons_option, filter, filter_map, find, last_or, codes, unwrap_or, IsUtf8, chars, Text, Value, text_of, value_tree, KdlValue, Identifier, identifier_tree, entry_tree, entry_data, KdlEntry, KdlIdentifier, node_data, nodes_data, document_data, children_data, children_of, has_name, is_argument, is_name, last_place, nth_place, same_text, sought, there, NodeKey, Key, Index, same_bytes, argument_named, argument_value, dash_arguments, first_argument, is_node_named, node_named, nodes_of, child_nodes, nodes_in, entries_of, found_entry, property_place, property_value, value_of, said_argument, said_children, said_node, said_property, said_type, document_says, document_tree, node_says, nodes_tree, KdlNode, KdlDocument, out-KdlNode}
use Rattle.std.specs.Option.{option_map_or}
use Rattle.kdl_entry.specs.Data as data'
use Rattle.kdl_grammar.specs.Data as nodes'
use Rattle.kdl_parts.specs.EntryLists.{arguments}
use Rattle.kdl.specs.DocumentLookups.{arguments_of, dash_arguments_of}
use Rattle.kdl.specs.Finds.{FindsSame, GivesArgument, GivesProperty, NodeFindsSame}
use Rattle.kdl.specs.Lookups.{found_value}
use Rattle.kdl.specs.Said.{has_no_key, is_called, last_property, nodes_inside, nth_argument, said_child_nodes, said_arg, said_args, said_arguments, said_dash_args, said_dashes, said_entries, said_entry, said_name, said_nodes, said_value}
use Rattle.kdl.proofs.Finding.ListLookups.{LastIs, find_first, last_found, last_is, nth_found}
use Rattle.kdl.proofs.Trees.{document_tree_out, node_tree_out}

-- what is found in a list is found in the list of what its elements are mapped to
last_mapped : {A B : Type 0} (f : A → B) (xs : List A) (o : Option A) → option_map f (last_or o xs) ≡ last_or (option_map f o) (map f xs)
last_mapped f [] o = refl
last_mapped f (x ∷ xs) o = last_mapped f xs (Some x)

filter_mapped : {A B : Type 0} (f : A → B) (p : A → Bool) (q : B → Bool) → ((x : A) → p x ≡ q (f x)) → (xs : List A) → map f (filter p xs) ≡ filter q (map f xs)
filter_mapped f p q h [] = refl
filter_mapped {A = A} {B = B} f p q h (x ∷ xs) = go (p x) (q (f x)) (h x) (filter_mapped f p q h xs)
  where
    go : (b c : Bool) → b ≡ c → map f (filter p xs) ≡ filter q (map f xs) → map f (cond b (x ∷ filter p xs) (filter p xs)) ≡ cond c (f x ∷ filter q (map f xs)) (filter q (map f xs))
    go true true e k = ap (λ l. f x ∷ l) k
    go true false e k = cc
    go false true e k = cc
    go false false e k = k

find_mapped : {A B : Type 0} (f : A → B) (p : A → Bool) (q : B → Bool) → ((x : A) → p x ≡ q (f x)) → (xs : List A) → option_map f (find p xs) ≡ find q (map f xs)
find_mapped f p q h xs = ap (option_map f) (find_first p xs) ∙ sym (slice_get-map f (filter p xs) 0) ∙ ap (λ l. slice_get l 0) (filter_mapped f p q h xs) ∙ sym (find_first q (map f xs))

given_mapped : {A B C : Type 0} (f : A → B) (g : A → Option C) (h : B → Option C) → ((x : A) → g x ≡ h (f x)) → (xs : List A) → filter_map g xs ≡ filter_map h (map f xs)
given_mapped f g h e [] = refl
given_mapped f g h e (x ∷ xs) = ap (λ o. cons_option o (filter_map g xs)) (e x) ∙ ap (cons_option (h (f x))) (given_mapped f g h e xs)

pub map_twice : {A B C : Type 0} (f : A → B) (g : B → C) (xs : List A) → map (λ x. g (f x)) xs ≡ map g (map f xs)
map_twice f g [] = refl
map_twice f g (x ∷ xs) = ap (λ l. g (f x) ∷ l) (map_twice f g xs)

value_mapped : {A B C : Type 0} (f : A → B) (g : B → C) (o : Option A) → option_map (λ x. g (f x)) o ≡ option_map g (option_map f o)
value_mapped f g None = refl
value_mapped f g (Some x) = refl

some_mapped : {A B : Type 0} (f : A → B) (o : Option A) → is_some o ≡ is_some (option_map f o)
some_mapped f None = refl
some_mapped f (Some x) = refl

-- a test of names by their bytes s is the test q of their characters
pub record Tests (s : List ℕ) (q : Text → Bool) : Type 0 where
  pub same : (b : List ℕ) → IsUtf8 b → same_text b s ≡ q (chars b)

-- texts of the same characters, and no others, have the same bytes
pub same_chars : (s : List ℕ) → IsUtf8 s → Tests s (λ t. same_text t (chars s))
same_chars s v = record {
  same = λ b u.
      let texts = bytes_eq-Decides (chars b) (chars s) in
      one_answer _ _ (bytes_eq-Decides b s) (λ t. same_bytes b s u v (texts.0 t), λ e. texts.1 (ap chars e));
}

-- whatever bytes the test is of, it is one of characters
pub same_encoded : (s : List ℕ) → Tests s (λ t. same_text (encodes t) s)
same_encoded s = record { same = λ b u. ap (λ t. same_text t s) (sym (encodes-chars b u)) }

-- what an entry in memory says
abbrev pub entry_says : KdlEntry → data'.Entry
entry_says e = entry_data (entry_tree e)

abbrev pub value_in : data'.Entry → Value
value_in e = e.value

abbrev pub is_tested : (Text → Bool) → data'.Entry → Bool
is_tested q e = option_map_or q e.key false

has_tested_name : (s : List ℕ) (q : Text → Bool) → Tests s q → (e : KdlEntry) → has_name s e ≡ is_tested q (entry_says e)
has_tested_name s q t e = go e.name
  where
    go : (o : Option KdlIdentifier) → is_name s o ≡ option_map_or q (option_map (λ (i : Identifier). i.value) (option_map identifier_tree o)) false
    go None = refl
    go (Some i) = t.same (string_bytes i.value) (IsUtf8-string_bytes i.value)

pub has_said_none : (e : KdlEntry) → is_argument e ≡ has_no_key (entry_says e)
has_said_none e = go e.name
  where
    go : (o : Option KdlIdentifier) → is_none o ≡ is_none (option_map (λ (i : Identifier). i.value) (option_map identifier_tree o))
    go None = refl
    go (Some i) = refl

-- the entries of a node say what the node says of them
pub entries_said : (n : KdlNode) → map entry_says (entries_of n) ≡ said_entries (node_says n)
entries_said n = map_twice entry_tree entry_data (entries_of n) ∙ ap (λ t. said_entries (node_data t)) (sym (node_tree_out n))

-- its name, its type and its children
pub name_said : (n : KdlNode) → text_of (out-KdlNode n).name.value ≡ said_name (node_says n)
name_said n = ap (λ t. said_name (node_data t)) (sym (node_tree_out n))

pub type_said : (n : KdlNode) → option_map (λ (i : Identifier). i.value) (option_map identifier_tree (out-KdlNode n).ty) ≡ said_type (node_says n)
type_said n = ap (λ t. said_type (node_data t)) (sym (node_tree_out n))

pub children_said : (n : KdlNode) → option_map document_says (out-KdlNode n).children ≡ said_children (node_says n)
children_said n = go (out-KdlNode n).children ∙ ap (λ t. said_children (node_data t)) (sym (node_tree_out n))
  where
    go : (o : Option KdlDocument) → option_map document_says o ≡ nodes_inside (children_data (children_of (option_map document_tree o)))
    go None = refl
    go (Some d) = refl

-- the last property that the test finds, and the argument at a place
pub property_tested : (s : List ℕ) (q : Text → Bool) → Tests s q → (n : KdlNode) → option_map entry_says (there (property_place s n) (entries_of n)) ≡ last_or None (filter (is_tested q) (said_entries (node_says n)))
property_tested s q t n =
    ap (option_map entry_says) (last_found (has_name s) (entries_of n))
    ∙ last_mapped entry_says (filter (has_name s) (entries_of n)) None
    ∙ ap (last_or None) (filter_mapped entry_says (has_name s) (is_tested q) (has_tested_name s q t) (entries_of n) ∙ ap (filter (is_tested q)) (entries_said n))

pub last_property_said : (s : List ℕ) (n : KdlNode) → IsUtf8 s → option_map entry_says (there (property_place s n) (entries_of n)) ≡ last_property (chars s) (node_says n)
last_property_said s n u = property_tested s (λ t. same_text t (chars s)) (same_chars s u) n

pub nth_argument_said : (i : ℕ) (n : KdlNode) → option_map entry_says (there (nth_place is_argument (entries_of n) i) (entries_of n)) ≡ nth_argument i (node_says n)
nth_argument_said i n =
    ap (option_map entry_says) (nth_found is_argument (entries_of n) i)
    ∙ sym (slice_get-map entry_says (filter is_argument (entries_of n)) i)
    ∙ ap (λ es. slice_get es i) (filter_mapped entry_says is_argument has_no_key has_said_none (entries_of n) ∙ ap (filter has_no_key) (entries_said n))

-- what a key finds in a node
pub entry_said : (key : NodeKey) (n : KdlNode) → option_map entry_says (found_entry key n) ≡ said_entry (sought key) (node_says n)
entry_said (Key k) n = last_property_said (string_bytes k.value) n (IsUtf8-string_bytes k.value)
entry_said (Index i) n = nth_argument_said i n

pub value_of_says : (o : Option KdlEntry) → value_of o ≡ option_map value_in (option_map entry_says o)
value_of_says o = value_mapped entry_says value_in o

pub value_said : (key : NodeKey) (n : KdlNode) → found_value key n ≡ said_value (sought key) (node_says n)
value_said key n = value_of_says (found_entry key n) ∙ ap (option_map value_in) (entry_said key n)

pub property_said : (s : List ℕ) (n : KdlNode) → IsUtf8 s → property_value s n ≡ said_property (chars s) (node_says n)
property_said s n u = value_of_says (there (property_place s n) (entries_of n)) ∙ ap (option_map value_in) (last_property_said s n u)

pub argument_said : (i : ℕ) (n : KdlNode) → found_value (Index i) n ≡ said_argument i (node_says n)
argument_said i n = value_said (Index i) n

-- whether there is a property of that name
some_there : {A : Type 0} (p : A → Bool) (xs : List A) → is_some (last_place p xs) ≡ is_some (there (last_place p xs) xs)
some_there {A = A} p xs = go (last_place p xs) (last_is p xs)
  where
    go : (o : Option ℕ) → LastIs p xs o → is_some o ≡ is_some (there o xs)
    go None h = refl
    go (Some i) h = ap is_some (sym h.here)

pub has_said : (s : List ℕ) (n : KdlNode) → IsUtf8 s → is_some (property_place s n) ≡ is_some (said_property (chars s) (node_says n))
has_said s n u =
    some_there (has_name s) (entries_of n) ∙ some_mapped (λ e. value_tree e.value) (there (property_place s n) (entries_of n)) ∙ ap is_some (property_said s n u)

-- the values of its arguments
pub arguments_said : (n : KdlNode) → arguments (entries_of n) ≡ said_arguments (node_says n)
arguments_said n =
    map_twice entry_says value_in (filter is_argument (entries_of n))
    ∙ ap (map value_in) (filter_mapped entry_says is_argument has_no_key has_said_none (entries_of n) ∙ ap (filter has_no_key) (entries_said n))

-- the nodes of a document, and in a node's block
listed : (ns : List KdlNode) → map node_says ns ≡ said_nodes (nodes_data (nodes_tree ns))
listed [] = refl
listed (n ∷ ns) = ap (λ l. node_says n ∷ l) (listed ns)

pub nodes_said : (d : KdlDocument) → map node_says (nodes_of d) ≡ said_nodes (document_says d)
nodes_said d = listed (nodes_of d) ∙ ap (λ t. said_nodes (document_data t)) (sym (document_tree_out d))

abbrev nodes_or_none : Option nodes'.Nodes → List nodes'.Node
nodes_or_none o = unwrap_or (option_map said_nodes o) []

pub child_nodes_said : (n : KdlNode) → map node_says (child_nodes n) ≡ said_child_nodes (node_says n)
child_nodes_said n = go (out-KdlNode n).children ∙ ap nodes_or_none (children_said n)
  where
    go : (o : Option KdlDocument) → map node_says (nodes_in o) ≡ nodes_or_none (option_map document_says o)
    go None = refl
    go (Some d) = nodes_said d

named_tested : (s : List ℕ) (q : Text → Bool) → Tests s q → (n : KdlNode) → is_node_named s n ≡ q (said_name (node_says n))
named_tested s q t n = t.same (string_bytes (out-KdlNode n).name.value) (IsUtf8-string_bytes (out-KdlNode n).name.value) ∙ ap q (name_said n)

-- the first node that the test finds
pub node_tested : (s : List ℕ) (q : Text → Bool) → Tests s q → (d : KdlDocument) → option_map node_says (node_named s d) ≡ find (λ n. q (said_name n)) (said_nodes (document_says d))
node_tested s q t d = find_mapped node_says (is_node_named s) (λ n. q (said_name n)) (named_tested s q t) (nodes_of d) ∙ ap (find (λ n. q (said_name n))) (nodes_said d)

pub node_said : (s : List ℕ) (d : KdlDocument) → IsUtf8 s → option_map node_says (node_named s d) ≡ said_node (chars s) (document_says d)
node_said s d u = node_tested s (λ t. same_text t (chars s)) (same_chars s u) d

-- its first argument, all its arguments, and those of the nodes named `-` in its block
argument_value_said : (n : KdlNode) → argument_value n ≡ said_argument 0 (node_says n)
argument_value_said n = argument_said 0 n

abbrev said_in : Option nodes'.Node → Option Value
said_in o = option_and_then (said_argument 0) o

argument_in : (o : Option KdlNode) → value_of (option_and_then first_argument o) ≡ said_in (option_map node_says o)
argument_in None = refl
argument_in (Some n) = argument_value_said n

abbrev all_in : Option nodes'.Node → List Value
all_in o = unwrap_or (option_map said_arguments o) []

arguments_in : (o : Option KdlNode) → arguments_of o ≡ all_in (option_map node_says o)
arguments_in None = refl
arguments_in (Some n) = arguments_said n

dash : Tests (codes "-") (λ t. same_text t (codes "-"))
unfolding lib.Utf8.encode chars
dash = same_chars (codes "-") (codes "-", (refl, refl))

pub dashes_said : (n : KdlNode) → dash_arguments (child_nodes n) ≡ said_dashes (node_says n)
dashes_said n =
    given_mapped node_says argument_value (said_argument 0) argument_value_said (filter (is_node_named (codes "-")) (child_nodes n))
    ∙ ap (filter_map (said_argument 0))
    (filter_mapped node_says (is_node_named (codes "-")) (is_called (codes "-")) (named_tested (codes "-") (λ t. same_text t (codes "-")) dash) (child_nodes n) ∙ ap (filter (is_called (codes "-"))) (child_nodes_said n))

abbrev dashes_all : Option nodes'.Node → List Value
dashes_all o = unwrap_or (option_map said_dashes o) []

dashes_in : (o : Option KdlNode) → dash_arguments_of o ≡ dashes_all (option_map node_says o)
dashes_in None = refl
dashes_in (Some n) = dashes_said n

-- so documents, and nodes, that say the same are the same to each look-up, whatever bytes it asks for
same_node : (s : List ℕ) (d e : KdlDocument) → document_says d ≡ document_says e → option_map node_says (node_named s d) ≡ option_map node_says (node_named s e)
same_node s d e h =
    let t = same_encoded s in
    node_tested s _ t d ∙ ap (λ x. find (λ n. same_text (encodes (said_name n)) s) (said_nodes x)) h ∙ sym (node_tested s _ t e)

same_property : (s : List ℕ) (n m : KdlNode) → node_says n ≡ node_says m → property_value s n ≡ property_value s m
same_property s n m h =
    let t = same_encoded s in
    let said = λ (k : KdlNode). value_of_says (there (property_place s k) (entries_of k)) ∙ ap (option_map value_in) (property_tested s _ t k) in
    said n ∙ ap (λ x. option_map value_in (last_or None (filter (is_tested (λ t. same_text (encodes t) s)) (said_entries x)))) h ∙ sym (said m)

-- the same of what a call gives
pub got_name : (n : KdlNode) (i : KdlIdentifier) → i ≡ (out-KdlNode n).name → (identifier_tree i).value ≡ said_name (node_says n)
got_name n i h = ap (λ (k : KdlIdentifier). (identifier_tree k).value) h ∙ name_said n

pub got_type : (n : KdlNode) (r : Option (Bor KdlIdentifier)) → option_map (λ t. t.now) r ≡ (out-KdlNode n).ty → option_map (λ t. (identifier_tree t.now).value) r ≡ said_type (node_says n)
got_type n r h =
    value_mapped (λ t. t.now) (λ (i : KdlIdentifier). (identifier_tree i).value) r
    ∙ value_mapped identifier_tree (λ (i : Identifier). i.value) (option_map (λ t. t.now) r)
    ∙ ap (λ o. option_map (λ (i : Identifier). i.value) (option_map identifier_tree o)) h ∙ type_said n

pub got_entries : (n : KdlNode) (es : List KdlEntry) → es ≡ entries_of n → map (λ e. entry_data (entry_tree e)) es ≡ said_entries (node_says n)
got_entries n es h = ap (map entry_says) h ∙ entries_said n

pub got_children : (n : KdlNode) (r : Option (Bor KdlDocument)) → option_map (λ d. d.now) r ≡ (out-KdlNode n).children → option_map (λ d. document_says d.now) r ≡ said_children (node_says n)
got_children n r h = value_mapped (λ d. d.now) document_says r ∙ ap (option_map document_says) h ∙ children_said n

pub got_child_nodes : (n : KdlNode) (ns : List KdlNode) → ns ≡ child_nodes n → map node_says ns ≡ said_child_nodes (node_says n)
got_child_nodes n ns h = ap (map node_says) h ∙ child_nodes_said n

pub got_nodes : (d : KdlDocument) (ns : List KdlNode) → ns ≡ nodes_of d → map node_says ns ≡ said_nodes (document_says d)
got_nodes d ns h = ap (map node_says) h ∙ nodes_said d

pub got_node : (s : List ℕ) (d : KdlDocument) (r : Option (Bor KdlNode)) → IsUtf8 s → option_map (λ n. n.now) r ≡ node_named s d → option_map (λ n. node_says n.now) r ≡ said_node (chars s) (document_says d)
got_node s d r u h = value_mapped (λ n. n.now) node_says r ∙ ap (option_map node_says) h ∙ node_said s d u

pub got_arg : (s : List ℕ) (d : KdlDocument) (r : Option (Bor KdlValue)) → IsUtf8 s → option_map (λ v. value_tree v.now) r ≡ value_of (argument_named s d) → option_map (λ v. value_tree v.now) r ≡ said_arg (chars s) (document_says d)
got_arg s d r u h = h ∙ argument_in (node_named s d) ∙ ap said_in (node_said s d u)

pub got_args : (s : List ℕ) (d : KdlDocument) (r : List Value) → IsUtf8 s → r ≡ arguments_of (node_named s d) → r ≡ said_args (chars s) (document_says d)
got_args s d r u h = h ∙ arguments_in (node_named s d) ∙ ap all_in (node_said s d u)

pub got_dash_args : (s : List ℕ) (d : KdlDocument) (r : List Value) → IsUtf8 s → r ≡ dash_arguments_of (node_named s d) → r ≡ said_dash_args (chars s) (document_says d)
got_dash_args s d r u h = h ∙ dashes_in (node_named s d) ∙ ap dashes_all (node_said s d u)

pub got_entry : (key : NodeKey) (n : KdlNode) (r : Option (Bor KdlEntry)) → option_map (λ e. e.now) r ≡ found_entry key n → option_map (λ e. entry_data (entry_tree e.now)) r ≡ said_entry (sought key) (node_says n)
got_entry key n r h = value_mapped (λ e. e.now) entry_says r ∙ ap (option_map entry_says) h ∙ entry_said key n

pub got_value : (key : NodeKey) (n : KdlNode) (r : Option (Bor KdlValue)) → option_map (λ v. value_tree v.now) r ≡ found_value key n → option_map (λ v. value_tree v.now) r ≡ said_value (sought key) (node_says n)
got_value key n r h = h ∙ value_said key n

pub got_property : (s : List ℕ) (n : KdlNode) (b : Bool) → IsUtf8 s → b ≡ is_some (property_place s n) → b ≡ is_some (said_property (chars s) (node_says n))
got_property s n b u h = h ∙ has_said s n u

pub finds_same : (d e : KdlDocument) → document_says e ≡ document_says d → FindsSame d e
finds_same d e h = record {
  node = λ s. same_node s e d h;
  argument = λ s. argument_in (node_named s e) ∙ ap said_in (same_node s e d h) ∙ sym (argument_in (node_named s d));
  arguments = λ s. arguments_in (node_named s e) ∙ ap all_in (same_node s e d h) ∙ sym (arguments_in (node_named s d));
  dash_arguments = λ s. dashes_in (node_named s e) ∙ ap dashes_all (same_node s e d h) ∙ sym (dashes_in (node_named s d));
  nodes = nodes_said e ∙ ap said_nodes h ∙ sym (nodes_said d);
}

pub node_finds_same : (n m : KdlNode) → node_says m ≡ node_says n → NodeFindsSame n m
node_finds_same n m h = record {
  value = λ key. value_said key m ∙ ap (said_value (sought key)) h ∙ sym (value_said key n);
  property = λ s. same_property s m n h;
  arguments = arguments_said m ∙ ap said_arguments h ∙ sym (arguments_said n);
  name = ap said_name h;
  children = child_nodes_said m ∙ ap (λ x. nodes_or_none (said_children x)) h ∙ sym (child_nodes_said n);
}

-- what an index gives
pub got_argument : (i : ℕ) (v : Value) (n : KdlNode) → found_value (Index i) n ≡ Some v → GivesArgument i v n
got_argument i v n h = record { value = h; said = sym (argument_said i n) ∙ h }

pub got_property_value : (s : List ℕ) (v : Value) (n : KdlNode) → IsUtf8 s → property_value s n ≡ Some v → GivesProperty s v n
got_property_value s v n u h = record { value = h; said = sym (property_said s n u) ∙ h }
