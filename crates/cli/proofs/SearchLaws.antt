-- What is shown of selected nodes is not empty, and only where some are selected is the status of files 0.
use Rattle.std.proofs.Common.{◌≡◌, ◌∙◌, ◌+◌, ◌==◌, ℕ, Bool, true, false, List, [], ◌∷◌, ◌++◌, None, Option, Some, append-nil, ap, arith, chars, inl, inr, length, refl, subst, sym, max, option_map, encode_utf8_all, IsSome}
use Rattle.std.specs.List.{flat_map}
use Rattle.std.specs.Io.KnownBytes.{Appends}
use Rattle.std.specs.Option.{option_map_or}
use Rattle.std.specs.Prelude.{if◌then◌else◌}
use Rattle.std.proofs.lemmas.List.{append_cancel_left}
use Rattle.kdl.specs.Words.{IsDocument, LaidDocument, Nodes, Text, document_says, document_tree, node_says, node_tree}
use Rattle.kdl.specs.declared.document.KdlDocument.{KdlDocument}
use Rattle.kdl.specs.declared.node.KdlNode.{KdlNode}
use Rattle.kdl_query.specs.Data as data'
use Rattle.kdl_query.specs.Held.{held_at}
use Rattle.kdl_query.specs.Selects.{IsSelected, IsSelection, Path, node_at}
use Rattle.kdl_query.specs.Tree.{query_says}
use Rattle.kdl_query.proofs.Firsts.{first_selected, node_selected, none_selected}
use Rattle.kdl_query.proofs.Holds.{held_says}
use Rattle.watched.specs.Streams.{Gets, Stream}
use Rattle.cli_shown.specs.Nodes.{ended, ends_line, node_shown, node_text, shown, shown_at}
use Rattle.cli_shown.specs.declared.nodes.View.{View}
use Rattle.cli_shown.specs.declared.nodes.View.TheVariants as view
use Rattle.cli_world.specs.Acts.{Does, Each, Effect, Happens}
use Rattle.cli_world.specs.Acts.Acts.{acts, lost, refuses}
use Rattle.cli_world.specs.Acts.Does.{does, memory}
use Rattle.cli_world.specs.Acts.Each.{none, more}
use Rattle.cli_world.specs.Acts.Effect.{prints}
use Rattle.cli_world.specs.Acts.Happens.{printed, unprinted}
use Rattle.cli_world.specs.Seen.{Seen}
use Rattle.cli_world.specs.Statuses.{code_of}
use Rattle.cli_world.specs.Tallies.{counted, worst}
use Rattle.cli_world.specs.declared.status.Status.{Status}
use Rattle.cli_world.specs.declared.status.Status.TheVariants.{Done, Found, Usage, Failed}
use Rattle.cli_world.specs.declared.tally.Tally.{Tally}
use Rattle.cli.proofs.AskLaws.{bad_not_done, report_not_done}
use Rattle.cli.specs.Searches.{Searches, SearchesFile, SearchesFiles, Shows}
use Rattle.cli.specs.declared.query.Search.{Search}

-- a text with a last byte
last_some : (s : List ℕ) (b : ℕ) → s ++ (b ∷ []) ≡ [] → ⊥
last_some [] b e = cc
last_some (x ∷ xs) b e = cc

some_ended : (b : Bool) (x : ℕ) (xs : List ℕ) → (if b then x ∷ xs else (x ∷ xs) ++ (10 ∷ [])) ≡ [] → ⊥
some_ended true x xs e = cc
some_ended false x xs e = cc

ended_some : (s : List ℕ) → ended s ≡ [] → ⊥
ended_some [] e = cc
ended_some (x ∷ xs) e = some_ended (ends_line (x ∷ xs)) x xs e

-- what is shown of a node
node_some : (v : View) (x : Nodes) (p : Path) (n : KdlNode) → (v ≡ view.Raw → ⊥) → (v ≡ view.Count → ⊥) → node_shown v x p n ≡ [] → ⊥
node_some view.Text x p n r c e = ended_some (encode_utf8_all (node_text (node_tree n))) e
node_some view.Raw x p n r c e = r refl
node_some view.Json x p n r c e = last_some _ 10 e
node_some view.Count x p n r c e = c refl
node_some view.Paths x p n r c e = last_some _ 10 e

at_some : (v : View) (d : KdlDocument) (p : Path) → (v ≡ view.Raw → ⊥) → (v ≡ view.Count → ⊥) → IsSome (node_at p (document_says d)) → shown_at v d p ≡ [] → ⊥
at_some v d p r c some e = go (held_at p d) (subst (λ (o : Option _). IsSome o) (sym (held_says p d)) some) e
  where
    go : (o : Option KdlNode) → IsSome (option_map node_says o) → option_map_or (node_shown v (document_says d) p) o [] ≡ [] → ⊥
    go None h e = cc
    go (Some n) h e = node_some v (document_says d) p n r c e

nil_before : (a b : List ℕ) → a ++ b ≡ [] → a ≡ []
nil_before [] b e = refl
nil_before (x ∷ xs) b e = absurd cc

lines_some : (v : View) (d : KdlDocument) (q : data'.Query) (p : Path) (ps : List Path) → (v ≡ view.Raw → ⊥) → (v ≡ view.Count → ⊥) → IsSelection (document_says d) q (p ∷ ps) → flat_map (shown_at v d) (p ∷ ps) ≡ [] → ⊥
lines_some v d q p ps r c is e = at_some v d p r c (node_selected (document_says d) q p (first_selected (document_says d) q p ps is).0) (nil_before (shown_at v d p) (flat_map (shown_at v d) ps) e)

-- what is shown of some nodes
shown_some : (v : View) (d : KdlDocument) (q : data'.Query) (p : Path) (ps : List Path) → (v ≡ view.Raw → ⊥) → IsSelection (document_says d) q (p ∷ ps) → shown v d (p ∷ ps) ≡ [] → ⊥
shown_some view.Text d q p ps r is e = lines_some view.Text d q p ps r (λ h. absurd cc) is e
shown_some view.Raw d q p ps r is e = r refl
shown_some view.Json d q p ps r is e = lines_some view.Json d q p ps r (λ h. absurd cc) is e
shown_some view.Count d q p ps r is e = last_some _ 10 e
shown_some view.Paths d q p ps r is e = lines_some view.Paths d q p ps r (λ h. absurd cc) is e

selected_some : (v : View) (d : KdlDocument) (q : data'.Query) (p : Path) (ps : List Path) → (v ≡ view.Raw → ⊥) → IsSelection (document_says d) q ps → IsSelected (document_says d) q p → shown v d ps ≡ [] → ⊥
selected_some v d q p [] r is h e = none_selected (document_says d) q p is h
selected_some v d q p (x ∷ xs) r is h e = shown_some v d q x xs r is e

-- an output that did not grow, although no write failed
nothing_got : (bytes : List ℕ) (old new : Stream) → IsSome old.bytes → new.bytes ≡ old.bytes → new.failed ≡ false → Gets bytes old new → bytes ≡ []
nothing_got bytes old new known same well (inr g) = absurd (let f = g.1 in cc)
nothing_got bytes old new known same well (inl g) = go old.bytes known (subst (λ (o : Option (List ℕ)). Appends old.bytes o bytes) same g.0)
  where
    go : (o : Option (List ℕ)) → IsSome o → Appends o o bytes → bytes ≡ []
    go None h a = absurd cc
    go (Some xs) h a = append_cancel_left xs bytes [] (sym a ∙ sym (append-nil xs))

-- what was printed, if all is well
happened : (name out : List ℕ) (old new : Seen) (given t : Tally) → Happens name old new (prints out given) t → t.status ≡ Done → Gets out old.out new.out × (t ≡ given)
happened name out old new given _ (printed p) e = (p.out, refl)
happened name out old new given _ (unprinted p) e = absurd cc

-- the nodes that were printed, if all is well
pub record Printed (s : Search) (text : List ℕ) (old new : Seen) (t : Tally) : Type 0 where
  pub bytes : List ℕ
  pub count : ℕ
  pub shows : Shows s text bytes count
  pub gets : Gets bytes old.out new.out
  pub counts : t.count ≡ count

text_printed : (s : Search) (name text : List ℕ) (old new : Seen) (t : Tally) → Does (Searches s name text) name old new t → t.status ≡ Done → Printed s text old new t
text_printed s name text old new _ (memory r) e = absurd cc
text_printed s name text old new _ (does {e = x} {t} (inr (error, f, is)) h) e =
    absurd (report_not_done name _ old new Found t (λ e. cc) (subst (λ (y : Effect). Happens name old new y t) is h) e)
text_printed s name text old new _ (does {e = x} {t} (inl (out, count, shows, is)) h) e =
    let so = happened name out old new (record { status = Done; count = count }) t (subst (λ (y : Effect). Happens name old new y t) is h) e in
    record { bytes = out; count = count; shows = shows; gets = so.0; counts = ap (λ (x : Tally). x.count) so.1 }

-- the same of a file with these bytes
file_printed : (s : Search) (name bytes : List ℕ) (old new : Seen) (t : Tally) → old.files name ≡ Some bytes → SearchesFile s name old new t → t.status ≡ Done → Printed s bytes old new t
file_printed s name bytes old new t known (refuses {bytes = b} has bad d) e = absurd (bad_not_done s.style name b old new t d e)
file_printed s name bytes old new _ known (lost l) e = absurd cc
file_printed s name bytes old new _ known (acts {text} {t} has utf8 d) e =
    subst (λ (b : List ℕ). Printed s b old new t) (sym (has bytes known)) (text_printed s name text old new t d e)

-- nodes that are selected in a known file are shown
pub shown_where_selected : ((t : Text) (d : KdlDocument) → LaidDocument (document_tree d) t → IsDocument t (document_says d)) → ((t : Text) (x y : Nodes) → IsDocument t x → IsDocument t y → x ≡ y)
    → (s : Search) (name bytes : List ℕ) (x : Nodes) (p : Path) (old new : Seen) (t : Tally) → old.files name ≡ Some bytes → IsDocument (chars bytes) x → IsSelected x (query_says s.query.now) p
    → (s.view ≡ view.Raw → ⊥) → IsSome old.out.bytes → new.out.bytes ≡ old.out.bytes → new.out.failed ≡ false → SearchesFile s name old new t → t.status ≡ Done → ⊥
shown_where_selected derived one s name bytes x p old new t known is selected raw out same well search e =
    let so = file_printed s name bytes old new t known search e in
    let d = so.shows.document in
    let says = one (chars bytes) x (document_says d) is (derived (chars bytes) d so.shows.laid) in
    selected_some s.view d (query_says s.query.now) p so.shows.shows.paths raw so.shows.shows.selection (subst (λ (y : Nodes). IsSelected y (query_says s.query.now) p) says selected)
    (sym so.shows.shows.shows ∙ nothing_got so.bytes old.out new.out out same well so.gets)

-- one file
last_name : (names : List (List ℕ)) (name last : List ℕ) → names ++ (last ∷ []) ≡ name ∷ [] → (names ≡ []) × (last ≡ name)
last_name [] name last e = (refl, cc)
last_name (x ∷ []) name last e = absurd cc
last_name (x ∷ (y ∷ ys)) name last e = absurd cc

last_named : (names : List (List ℕ)) (last : List ℕ) → names ++ (last ∷ []) ≡ [] → ⊥
last_named [] last e = cc
last_named (x ∷ xs) last e = cc

no_files : (act : List ℕ → Seen → Seen → Tally → Type 0) (names : List (List ℕ)) (old new : Seen) (ts : List Tally) → Each act names old new ts → names ≡ [] → (ts ≡ []) × (old ≡ new)
no_files act _ old _ _ (none {s}) e = (refl, refl)
no_files act _ _ _ _ (more {names} {ts} {name} {t} {old} {mid} {new} each a) e = absurd (last_named names name e)

one_file : (act : List ℕ → Seen → Seen → Tally → Type 0) (names : List (List ℕ)) (name : List ℕ) (old new : Seen) (ts : List Tally) → Each act names old new ts → names ≡ name ∷ [] → (t : Tally) × (ts ≡ t ∷ []) × act name old new t
one_file act _ name old _ _ (none {s}) e = absurd cc
one_file act _ wanted _ _ _ (more {names} {ts} {name} {t} {old} {mid} {new} each a) e =
    let l = last_name names wanted name e in
    let so = no_files act names old mid ts each l.0 in
    (t, ap (λ (xs : List Tally). xs ++ (t ∷ [])) so.0, subst (λ (n : List ℕ). act n old new t) l.1 (subst (λ (m : Seen). act name m new t) (sym so.1) a))

zero_max : (a b : ℕ) → 0 ≡ max (max a 0) b → (a ≡ 0) × (b ≡ 0)
zero_max a b e = (omega (arith, e), omega (arith, e))

is_done : (s : Status) → code_of s ≡ 0 → s ≡ Done
is_done Done e = refl
is_done Found e = absurd cc
is_done Usage e = absurd cc
is_done Failed e = absurd cc

some_counted : (n : ℕ) → ◌≡◌ {A = ℕ} (if n == 0 then 1 else 0) 0 → n ≡ 0 → ⊥
some_counted n e z = let one : ◌≡◌ {A = ℕ} 1 0 = subst (λ (m : ℕ). ◌≡◌ {A = ℕ} (if m == 0 then 1 else 0) 0) z e in omega (arith, one)

some_path : (x : Nodes) (q : data'.Query) (ps : List Path) → IsSelection x q ps → (length ps ≡ 0 → ⊥) → (p : Path) × IsSelected x q p
some_path x q [] is h = absurd (h refl)
some_path x q (p ∷ ps) is h = (p, (first_selected x q p ps is).0)

-- only if nodes are selected is all well
pub found_where_none_selected : ((t : Text) (d : KdlDocument) → LaidDocument (document_tree d) t → IsDocument t (document_says d)) → ((t : Text) (x y : Nodes) → IsDocument t x → IsDocument t y → x ≡ y)
    → (s : Search) (name bytes : List ℕ) (x : Nodes) (old new : Seen) → old.files name ≡ Some bytes → IsDocument (chars bytes) x → ((p : Path) → IsSelected x (query_says s.query.now) p → ⊥)
    → SearchesFiles s (name ∷ []) old new Done → ⊥
found_where_none_selected derived one s name bytes x old new known is nothing (ts, each, status) =
    let f = one_file (SearchesFile s) (name ∷ []) name old new ts each refl in
    let z = zero_max (code_of f.0.status) _ (subst (λ (us : List Tally). 0 ≡ max (worst us) (if counted us == 0 then 1 else 0)) f.1 status) in
    let so = file_printed s name bytes old new f.0 known f.2 (is_done f.0.status z.0) in
    let d = so.shows.document in
    let says = one (chars bytes) x (document_says d) is (derived (chars bytes) d so.shows.laid) in
    let counts = so.counts in
    let paths = so.shows.shows.counts in
    let p = some_path (document_says d) (query_says s.query.now) so.shows.shows.paths so.shows.shows.selection (λ h. some_counted (f.0.count + 0) z.1 (omega (arith, h, counts, paths))) in
    nothing p.0 (subst (λ (y : Nodes). IsSelected y (query_says s.query.now) p.0) (sym says) p.1)
