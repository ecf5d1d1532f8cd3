-- A document after an edit at each of some paths.
use Rattle.std.proofs.Common.{◌≡◌, ◌<◌, inr, ℕ, zero, suc, Bool, true, false, Contains, List, [], ◌∷◌, ◌++◌, get_or, length, Option, None, Some, IsSome, is_some, option_and_then, option_map, refl, ap, ◌∙◌, sym, subst, arith, append_assoc, append-nil, Global, String, reverse, string_bytes, Ok}
use Rattle.std.proofs.lemmas.List.{reverse-append}
use Rattle.std.proofs.lemmas.List.Elements.{Contains-append_right}
use Rattle.std.proofs.lemmas.Option.{none-some}
use Rattle.std.specs.Str.{chars, encode_utf8_all}
use Rattle.std.specs.List.{AllByRecursion, AllPairs}
use Rattle.kdl_entry.specs.Data.{Entry}
use Rattle.kdl_grammar.specs.Data as data'
use Rattle.kdl_text.specs.Chars.{Text}
use Rattle.kdl_value.specs.Data.{Value}
use Rattle.kdl_value.specs.Tree.{text_of, value_tree}
use Rattle.kdl_layout.proofs.Texts.{printed_text}
use Rattle.kdl_grammar.specs.Grammar.{IsDocument}
use Rattle.kdl_grammar.specs.ReadsBack.{DocumentReads}
use Rattle.kdl_grammar.specs.Tree.{Document, document_data}
use Rattle.c_calls.specs.Changes.{changed_at}
use Rattle.c_calls.specs.Entries.{EntryRemoved, IsValueText}
use Rattle.kdl.specs.Lookups.{entries_of}
use Rattle.kdl.specs.Said.{said_entries}
use Rattle.kdl.specs.Tree.{document_prints, document_says, document_tree, node_says, node_tree}
use Rattle.kdl.specs.declared.document.KdlDocument.{KdlDocument}
use Rattle.kdl.specs.declared.node.KdlNode.{KdlNode}
use Rattle.kdl_query.specs.Selects as query
use Rattle.kdl_query.specs.Data.{Query}
use Rattle.kdl_query.specs.Selects.{IsBefore, IsSelected, IsSelection, Path}
use Rattle.kdl_query.specs.Turns.{paths_from, turned}
use Rattle.kdl_query.specs.declared.find.Turn.{Turn}
use Rattle.kdl_path.specs.Each.{AreExchanged, IsRemovedAtEach, IsSetAtEach, RemoveEachFails, SetEachFails, edited_at, named_node, removed, value_at, with_value_at}
use Rattle.kdl_path.specs.Edits.{entry_place, node_with_value, node_without_entry, with_target}
use Rattle.kdl_path.specs.Internal.Changed.{IsValueSet}
use Rattle.kdl_path.specs.Internal.Done.{IsNamed}
use Rattle.kdl_path.specs.Internal.Failing.{MissesIf}
use Rattle.kdl_path.specs.Internal.Located.{place_of_target}
use Rattle.kdl_path.specs.Internal.OnEach.{IsRemovedOnEach, IsSetOn, IsSetOnEach, edited, edited_each, removing, setting}
use Rattle.kdl_path.specs.Paths.{value_in}
use Rattle.kdl_path.specs.declared.failure.EditFailure.{EditFailure}
use Rattle.kdl_path.specs.declared.failure.EditFailure.TheVariants as edit
use Rattle.kdl_path.specs.declared.path.Target.{Target}
use Rattle.kdl_path.specs.declared.path.Target.TheVariants.{Node, Argument, Property}
use Rattle.kdl_path.specs.declared.value.Spelled.{Spelled}
use Rattle.kdl_path.proofs.Apart.{KeepsBefore, kept_before_each, nth_before, without_before}
use Rattle.kdl_path.proofs.Edited.{out_says, target_missing, target_named}
use Rattle.kdl_path.proofs.Everywhere.{Ascends, Replaces, everywhere}
use Rattle.kdl_path.proofs.Places.{value_is_there, value_missing}
use Rattle.kdl_path.proofs.Removals.{removed_reads, removed_says}
use Rattle.kdl_path.proofs.Trees.{IsAt, reads_at, says_at}
use Rattle.kdl_path.proofs.Values.{IsValueDone, exchanged_as, value_done}

-- what a target names depends on the entries alone
abbrev value_of : Target → List Entry → Option Value
value_of t es = value_in t (data'.node None [] es data'.no_children)

value_by_entries : (t : Target) (n : data'.Node) → value_in t n ≡ value_of t (said_entries n)
value_by_entries Node n = refl
value_by_entries (Argument i) n = refl
value_by_entries (Property s) n = refl

same_value : (t : Target) (a b : Option data'.Node) → option_map said_entries a ≡ option_map said_entries b → option_and_then (value_in t) a ≡ option_and_then (value_in t) b
same_value t None None h = refl
same_value t None (Some n) h = absurd (none-some _ h)
same_value t (Some m) None h = absurd (none-some _ (sym h))
same_value t (Some m) (Some n) h = let same : said_entries m ≡ said_entries n = cc in value_by_entries t m ∙ ap (value_of t) same ∙ sym (value_by_entries t n)

abbrev names : Target → List Entry → Bool
names Node es = true
names (Argument i) es = is_some (entry_place (Argument i) es)
names (Property s) es = is_some (entry_place (Property s) es)

some_mapped : {A B : Type 0} (b : B) (o : Option A) → is_some (option_map (λ _. b) o) ≡ is_some o
some_mapped b None = refl
some_mapped b (Some x) = refl

named_by_entries : (t : Target) (n : data'.Node) → is_some (with_target t n) ≡ names t (said_entries n)
named_by_entries Node n = refl
named_by_entries (Argument i) n = some_mapped n (entry_place (Argument i) (said_entries n))
named_by_entries (Property s) n = some_mapped n (entry_place (Property s) (said_entries n))

same_named : (t : Target) (a b : Option data'.Node) → option_map said_entries a ≡ option_map said_entries b → is_some (option_and_then (with_target t) a) ≡ is_some (option_and_then (with_target t) b)
same_named t None None h = refl
same_named t None (Some n) h = absurd (none-some _ h)
same_named t (Some m) None h = absurd (none-some _ (sym h))
same_named t (Some m) (Some n) h = let same : said_entries m ≡ said_entries n = cc in named_by_entries t m ∙ ap (names t) same ∙ sym (named_by_entries t n)

none_as : {A B : Type 0} (a : Option A) (b : Option B) → is_some a ≡ is_some b → a ≡ None → b ≡ None
none_as a None h e = refl
none_as a (Some y) h e = let f : is_some a ≡ false = ap is_some e in absurd (cc)

-- the edits leave what is before
set_keeps : (t : Target) (v : Value) → KeepsBefore (setting t v)
set_keeps t v i j x h = nth_before (node_with_value t v) i j x h

removed_keeps : (t : Target) → KeepsBefore (removing t)
removed_keeps Node i j x h = without_before i j x h
removed_keeps (Argument k) i j x h = nth_before (node_without_entry (Argument k)) i j x h
removed_keeps (Property s) i j x h = nth_before (node_without_entry (Property s)) i j x h

value_kept : (t : Target) (v : Value) (given : Text) (p : Path) (ps : List Path) (d e : Document) → AllByRecursion (IsBefore p) ps → IsSetOnEach ps t v given d e → value_at t (document_data e) p ≡ value_at t (document_data d) p
value_kept t v given p ps d e b h =
    ap (λ x. value_at t x p) h.says ∙ same_value t (query.node_at p (edited_each (setting t v) ps (document_data d))) (query.node_at p (document_data d)) (kept_before_each (setting t v) (set_keeps t v) p ps (document_data d) b)

named_kept : (t : Target) (p : Path) (ps : List Path) (d e : Document) → AllByRecursion (IsBefore p) ps → IsRemovedOnEach ps t d e → is_some (named_node t (document_data e) p) ≡ is_some (named_node t (document_data d) p)
named_kept t p ps d e b h =
    ap (λ x. is_some (named_node t x p)) h.says ∙ same_named t (query.node_at p (edited_each (removing t) ps (document_data d))) (query.node_at p (document_data d)) (kept_before_each (removing t) (removed_keeps t) p ps (document_data d) b)

-- one path more
pub contains_first : {A : Type 0} (p : A) (ps : List A) → Contains (p ∷ ps) p
contains_first p ps = (0, omega arith, refl)

contains_each : {A : Type 0} (P : A → Type 0) (p : A) (ps : List A) → P p → ((q : A) → Contains ps q → P q) → (q : A) → Contains (p ∷ ps) q → P q
contains_each {A = A} P p ps h f q c = go c.0 c.1 c.2
  where
    go : (k : ℕ) → k < length (p ∷ ps) → get_or (p ∷ ps) k q ≡ q → P q
    go zero l e = subst P e h
    go (suc k) l e = f q (k, omega (arith, l), e)

contains_nothing : {A : Type 0} (q : A) → Contains {X = A} [] q → ⊥
contains_nothing q c = absurd (omega (arith, c.1))

pub set_none : (t : Target) (v : Value) (given : Text) (d : Document) → DocumentReads d → IsSetOnEach [] t v given d d
set_none t v given d r = record { reads = r; says = refl; bytes = AreExchanged.nothing; there = λ p c. absurd (contains_nothing p c) }

setting_replaces : (t : Target) (v : Value) → Replaces (setting t v) (λ n. Some (node_with_value t v n))
setting_replaces t v = record { none = λ i. refl; zero = λ n x. refl; suc = λ i n x. refl }

all_set : (t : Target) (v : Value) (ps : List Path) → Ascends ps → (x : data'.Nodes) → edited_each (setting t v) ps x ≡ with_value_at ps t v x
all_set t v ps h x = everywhere (setting t v) (λ n. Some (node_with_value t v n)) (setting_replaces t v) ps h x

set_next : (t : Target) (v : Value) (given : Text) (p : Path) (ps : List Path) (d e f : Document) → Ascends (p ∷ ps) → IsSetOnEach ps t v given d e → IsSetOn p t v given e f → IsSetOnEach (p ∷ ps) t v given d f
set_next t v given p ps d e f b done one =
    let same = value_kept t v given p ps d e b.0 done in
    record {
      reads = one.reads;
      says = one.says ∙ ap (edited (setting t v) p) done.says;
      bytes = AreExchanged.exchange one.was (λ w h. one.former w (same ∙ h)) done.bytes
          (exchanged_as (λ w. all_set t w (p ∷ []) (tt, tt) (document_data e) ∙ ap (with_value_at (p ∷ []) t w) (done.says ∙ all_set t v ps b.1 (document_data d))) one.bytes);
      there = contains_each (λ q. IsSome (value_at t (document_data d) q)) p ps (subst (λ (o : Option Value). IsSome o) same one.there) done.there;
    }

removed_next : (t : Target) (p : Path) (ps : List Path) (d e f : Document) → AllByRecursion (IsBefore p) ps → IsRemovedOnEach ps t d e → IsRemovedOnEach (p ∷ []) t e f → IsRemovedOnEach (p ∷ ps) t d f
removed_next t p ps d e f b done one = record {
  reads = one.reads;
  says = one.says ∙ ap (edited (removing t) p) done.says;
  there = contains_each (λ q. IsSome (named_node t (document_data d) q)) p ps (sym (named_kept t p ps d e b done) ∙ one.there p (contains_first p [])) done.there;
}

-- a path is before those after it
each_after : (p : Path) (ps : List Path) → ((k : ℕ) (d : Path) → k < length ps → IsBefore p (get_or ps k d)) → AllByRecursion (IsBefore p) ps
each_after p [] f = tt
each_after p (q ∷ ps) f = (f 0 q (omega arith), each_after p ps (λ k d l. f (suc k) d (omega (arith, l))))

after_these : (before ps : List Path) → AllPairs IsBefore (before ++ ps) → AllPairs IsBefore ps
after_these [] ps h = h
after_these (q ∷ before) ps h = after_these before ps (λ i j d l m. h (suc i) (suc j) d (omega (arith, l)) (omega (arith, m)))

ascends : (ps : List Path) → AllPairs IsBefore ps → Ascends ps
ascends [] h = tt
ascends (p ∷ ps) h = (each_after p ps (λ k d l. h 0 (suc k) d (omega arith) (omega (arith, l))), ascends ps (λ i j d l m. h (suc i) (suc j) d (omega (arith, l)) (omega (arith, m))))

-- the paths before the next one, and those that are done
record Next (all before : List Path) (p : Path) (done : List Path) : Type 0 where
  pub paths : all ≡ before ++ p ∷ done
  pub ordered : Ascends (p ∷ done)

next : (all rest before : List Path) (p : Path) (done : List Path) → AllPairs IsBefore all → all ≡ rest ++ done → rest ≡ before ++ p ∷ [] → Next all before p done
next all rest before p done o h k =
    let e : all ≡ before ++ p ∷ done = h ∙ ap (λ l. l ++ done) k ∙ append_assoc before (p ∷ []) done in
    record { paths = e; ordered = ascends (p ∷ done) (after_these before (p ∷ done) (subst (AllPairs IsBefore) e o)) }

-- the turn that is taken next
pub split_back : (ts rest : List Turn) (t : Turn) (p : Path) → ts ≡ rest ++ t ∷ [] → reverse (paths_from p (reverse ts)) ≡ reverse (paths_from (turned p t) (reverse rest)) ++ turned p t ∷ []
split_back ts rest t p h =
    ap (λ l. reverse (paths_from p (reverse l))) h ∙ ap (λ l. reverse (paths_from p l)) (reverse-append rest (t ∷ [])) ∙ reverse-append (turned p t ∷ []) (paths_from (turned p t) (reverse rest))

-- the loop of `set_at_paths`: the paths done, and the document there
pub record IsSetSo (all rest : List Path) (t : Target) (v : Value) (given : Text) (d e : Document) : Type 0 where
  pub done : List Path
  pub paths : all ≡ rest ++ done
  pub set : IsSetOnEach done t v given d e

pub set_begins : (all rest : List Path) (t : Target) (v : Value) (given : Text) (d : Document) → all ≡ rest → DocumentReads d → IsSetSo all rest t v given d d
set_begins all rest t v given d h r = record { done = []; paths = h ∙ sym (append-nil rest); set = set_none t v given d r }

pub set_goes : (all rest before : List Path) (p : Path) (t : Target) (v : Value) (given : Text) (d e f : Document) → AllPairs IsBefore all → rest ≡ before ++ p ∷ [] → IsSetSo all rest t v given d e → IsSetOn p t v given e f → IsSetSo all before t v given d f
set_goes all rest before p t v given d e f o k so one =
    let n = next all rest before p so.done o so.paths k in
    record { done = p ∷ so.done; paths = n.paths; set = set_next t v given p so.done d e f n.ordered so.set one }

pub set_misses : (all rest before : List Path) (p : Path) (t : Target) (v : Value) (given : Text) (d e : Document) → AllPairs IsBefore all → rest ≡ before ++ p ∷ [] → IsSetSo all rest t v given d e → value_at t (document_data e) p ≡ None
    → (q : Path) × Contains all q × (value_at t (document_data d) q ≡ None)
set_misses all rest before p t v given d e o k so none =
    let n = next all rest before p so.done o so.paths k in
    (p, subst (λ l. Contains l p) (sym n.paths) (Contains-append_right before (p ∷ so.done) p (contains_first p so.done)), sym (value_kept t v given p so.done d e n.ordered.0 so.set) ∙ none)

-- the same of `remove_at_paths`
pub record IsRemovedSo (all rest : List Path) (t : Target) (d e : Document) : Type 0 where
  pub done : List Path
  pub paths : all ≡ rest ++ done
  pub removed : IsRemovedOnEach done t d e

pub removal_goes : (all rest before : List Path) (p : Path) (t : Target) (d e f : Document) → AllPairs IsBefore all → rest ≡ before ++ p ∷ [] → IsRemovedSo all rest t d e → IsRemovedOnEach (p ∷ []) t e f → IsRemovedSo all before t d f
removal_goes all rest before p t d e f o k so one =
    let n = next all rest before p so.done o so.paths k in
    record { done = p ∷ so.done; paths = n.paths; removed = removed_next t p so.done d e f n.ordered.0 so.removed one }

pub removal_misses : (all rest before : List Path) (p : Path) (t : Target) (d e : Document) → AllPairs IsBefore all → rest ≡ before ++ p ∷ [] → IsRemovedSo all rest t d e → named_node t (document_data e) p ≡ None
    → (q : Path) × Contains all q × (named_node t (document_data d) q ≡ None)
removal_misses all rest before p t d e o k so none =
    let n = next all rest before p so.done o so.paths k in
    (p, subst (λ l. Contains l p) (sym n.paths) (Contains-append_right before (p ∷ so.done) p (contains_first p so.done)), none_as (named_node t (document_data e) p) (named_node t (document_data d) p) (named_kept t p so.done d e n.ordered.0 so.removed) none)

-- one path
pub same_node : (a b : KdlNode) (o : Option KdlNode) → o ≡ Some a → o ≡ Some b → a ≡ b
same_node a b o h k = cc

pub set_on : (t : Target) (v : Value) (given : Text) (p : Path) (d e : Document) (n m : KdlNode) (i : ℕ) → IsAt p d (node_tree n) → query.node_at p (document_data d) ≡ Some (node_says n) → place_of_target t (entries_of n) ≡ Some i → IsValueText given v
    → IsValueSet i v given n m → e ≡ changed_at p (λ _. node_tree m) d → DocumentReads d → IsSetOn p t v given d e
set_on t v given p d e n m i at said place ok set rest r =
    let x : IsValueDone p t v given d e n = value_done p t v given d e n m i at place ok set rest r in
    let here : value_at t (document_data d) p ≡ value_in t (node_says n) = ap (option_and_then (value_in t)) said in
    record {
      reads = x.reads;
      says = x.says;
      was = x.was;
      former = λ w k. x.former w (sym here ∙ k);
      bytes = x.bytes;
      there = subst (λ (o : Option Value). IsSome o) (sym here) (value_is_there t n i (sym place));
    }

removed_entry : (t : Target) (p : Path) (d : Document) (n m : KdlNode) (i : ℕ) → IsAt p d (node_tree n) → IsNamed t n (Some i) → EntryRemoved i n m → document_data (changed_at p (λ _. node_tree m) d) ≡ edited (removing t) p (document_data d)
removed_entry Node p d n m i at named h = absurd (named.0 refl)
removed_entry (Argument k) p d n m i at named h = says_at (λ _. node_tree m) (node_without_entry (Argument k)) (removing (Argument k)) p d (node_tree n) (removed_says (Argument k) n m i named.1 h) (λ i x. refl) at
removed_entry (Property s) p d n m i at named h = says_at (λ _. node_tree m) (node_without_entry (Property s)) (removing (Property s)) p d (node_tree n) (removed_says (Property s) n m i named.1 h) (λ i x. refl) at

removed_there : (t : Target) (p : Path) (d : Document) (n : KdlNode) (o : Option ℕ) → query.node_at p (document_data d) ≡ Some (node_says n) → IsNamed t n o → (q : Path) → Contains (p ∷ []) q → IsSome (named_node t (document_data d) q)
removed_there t p d n o said named =
    contains_each (λ q. IsSome (named_node t (document_data d) q)) p [] (ap (λ m. is_some (option_and_then (with_target t) m)) said ∙ target_named t n o named) (λ q c. absurd (contains_nothing q c))

pub entry_removed_on : (t : Target) (p : Path) (d e : Document) (n m : KdlNode) (i : ℕ) → IsAt p d (node_tree n) → query.node_at p (document_data d) ≡ Some (node_says n) → IsNamed t n (Some i) → EntryRemoved i n m → e ≡ changed_at p (λ _. node_tree m) d
    → DocumentReads d → IsRemovedOnEach (p ∷ []) t d e
entry_removed_on t p d e n m i at said named h rest r = record {
  reads = subst DocumentReads (sym rest) ((reads_at p d (node_tree n) at r).changed (λ _. node_tree m) (removed_reads n m i h));
  says = ap document_data rest ∙ removed_entry t p d n m i at named h;
  there = removed_there t p d n (Some i) said named;
}

pub node_removed_on : (t : Target) (p : Path) (d e : Document) (n : KdlNode) → query.node_at p (document_data d) ≡ Some (node_says n) → t ≡ Node → DocumentReads e → document_data e ≡ edited (removing Node) p (document_data d) → IsRemovedOnEach (p ∷ []) t d e
node_removed_on t p d e n said own reads says = record {
  reads = reads;
  says = says ∙ ap (λ t. edited (removing t) p (document_data d)) (sym own);
  there = removed_there t p d n None said own;
}

-- no path is selected
no_items : {A : Type 0} (xs : List A) → length xs ≡ 0 → xs ≡ []
no_items [] h = refl
no_items (x ∷ xs) h = absurd (omega arith)

pub none_selected : (x : data'.Nodes) (q : Query) (ts : List Turn) → IsSelection x q (paths_from [] ts) → length ts ≡ 0 → (p : Path) → IsSelected x q p → ⊥
none_selected x q ts h e p s = contains_nothing p (subst (λ l. Contains (paths_from [] l) p) (no_items ts e) ((h.each p).1 s))

-- what is missing at a path
pub value_missing_at : (t : Target) (p : Path) (x : data'.Nodes) (n : KdlNode) → query.node_at p x ≡ Some (node_says n) → place_of_target t (entries_of n) ≡ None → value_at t x p ≡ None
value_missing_at t p x n h e = ap (option_and_then (value_in t)) h ∙ sym (value_missing t n (sym e))

pub name_missing_at : (t : Target) (p : Path) (x : data'.Nodes) (n : KdlNode) → query.node_at p x ≡ Some (node_says n) → (t ≡ Node → ⊥) × (place_of_target t (entries_of n) ≡ None) → named_node t x p ≡ None
name_missing_at t p x n h e = ap (option_and_then (with_target t)) h ∙ target_missing t n e.0 e.1

-- the edits of all paths
removing_replaces : (t : Target) → Replaces (removing t) (removed t)
removing_replaces Node = record { none = λ i. refl; zero = λ n x. refl; suc = λ i n x. refl }
removing_replaces (Argument k) = record { none = λ i. refl; zero = λ n x. refl; suc = λ i n x. refl }
removing_replaces (Property s) = record { none = λ i. refl; zero = λ n x. refl; suc = λ i n x. refl }

-- failures at a path that is selected
pub set_each_missing : (q : Query) (t : Target) (given text : List ℕ) (x : data'.Nodes) (ps : List Path) (e : EditFailure) → IsDocument (chars text) x → IsSelection x q ps → MissesIf ((p : Path) × Contains ps p × (value_at t x p ≡ None)) e
    → SetEachFails q t given text e
set_each_missing q t given text x ps (edit.Missing m) d s (p, c, h) = (x, d, inr (p, (s.each p).0 c, h))
set_each_missing q t given text x ps edit.Memory d s h = tt
set_each_missing q t given text x ps (edit.Text y) d s h = absurd h
set_each_missing q t given text x ps edit.Value d s h = absurd h
set_each_missing q t given text x ps (edit.Node y) d s h = absurd h
set_each_missing q t given text x ps edit.NotNode d s h = absurd h

pub remove_each_missing : (q : Query) (t : Target) (text : List ℕ) (x : data'.Nodes) (ps : List Path) (e : EditFailure) → IsDocument (chars text) x → IsSelection x q ps → MissesIf ((p : Path) × Contains ps p × (named_node t x p ≡ None)) e → RemoveEachFails q t text e
remove_each_missing q t text x ps (edit.Missing m) d s (p, c, h) = (x, d, inr (p, (s.each p).0 c, h))
remove_each_missing q t text x ps edit.Memory d s h = tt
remove_each_missing q t text x ps (edit.Text y) d s h = absurd h
remove_each_missing q t text x ps edit.Value d s h = absurd h
remove_each_missing q t text x ps (edit.Node y) d s h = absurd h
remove_each_missing q t text x ps edit.NotNode d s h = absurd h

-- the texts
pub set_each_ends : (q : Query) (t : Target) (s : Spelled) (given text : Text) (ps : List Path) (d e : KdlDocument) (out : String Global) (x : data'.Nodes) → IsDocument text x → text_of s.spelling ≡ given → IsValueText given (value_tree s.value)
    → ((z : data'.Nodes) → IsDocument text z → z ≡ document_says d) → document_prints d ≡ text → IsSelection (document_says d) q ps → (ps ≡ [] → ⊥) → IsSetOnEach ps t (value_tree s.value) (text_of s.spelling) (document_tree d) (document_tree e)
    → string_bytes out ≡ encode_utf8_all (document_prints e) → IsSetAtEach x q t given text (text_of out)
set_each_ends q t s given text ps d e out x is spelled ok only prints selection some set bytes =
    let printed : text_of out ≡ document_prints e = printed_text {E = Unit {0}} (Ok out) (document_prints e) bytes in
    let y = document_says d in
    let v = value_tree s.value in
    let chain : AreExchanged y t v given ps text (text_of out) =
    subst (λ (u : Text). AreExchanged y t v u ps text (text_of out)) spelled
    (subst (λ (u : Text). AreExchanged y t v (text_of s.spelling) ps u (text_of out)) prints (subst (λ (u : Text). AreExchanged y t v (text_of s.spelling) ps (document_prints d) u) (sym printed) set.bytes)) in
    subst (λ (z : data'.Nodes). IsSetAtEach z q t given text (text_of out)) (sym (only x is)) (record {
      paths = ps;
      found = record { selection = selection; some = some; each = λ p k. set.there p ((selection.each p).1 k) };
      value = v;
      reads = ok;
      says = out_says e out (with_value_at ps t v y) bytes set.reads (set.says ∙ all_set t v ps (ascends ps selection.ordered) y);
      bytes = chain;
    })

pub remove_each_ends : (q : Query) (t : Target) (text : Text) (ps : List Path) (d e : KdlDocument) (out : String Global) (x : data'.Nodes) → IsDocument text x → ((z : data'.Nodes) → IsDocument text z → z ≡ document_says d)
    → IsSelection (document_says d) q ps → (ps ≡ [] → ⊥) → IsRemovedOnEach ps t (document_tree d) (document_tree e) → string_bytes out ≡ encode_utf8_all (document_prints e) → IsRemovedAtEach x q t (text_of out)
remove_each_ends q t text ps d e out x y only selection some h bytes =
    subst (λ (z : data'.Nodes). IsRemovedAtEach z q t (text_of out)) (sym (only x y)) (record {
      paths = ps;
      found = record { selection = selection; some = some; each = λ p k. h.there p ((selection.each p).1 k) };
      says = out_says e out (edited_at ps (removed t) (document_says d)) bytes h.reads (h.says ∙ everywhere (removing t) (removed t) (removing_replaces t) ps (ascends ps selection.ordered) (document_says d));
    })
