-- What is in a file, or on the output, after an action.
use Rattle.std.proofs.Common.{Bor, IsSome, chars, ◌≡◌, ◌∙◌, ◌++◌, ◌∷◌, [], Bool, List, Option, Some, None, ap, append-nil, encode_utf8_all, false, if◌then◌else◌, inl, inr, refl, subst, sym, true, ℕ}
use Rattle.std.specs.Str.{bytes_eq}
use Rattle.std.specs.Io.KnownBytes.{Appends}
use Rattle.std.proofs.lemmas.List.{append_cancel_left}
use Rattle.std.proofs.lemmas.Slice.Eq.{bytes_eq-Decides}
use Rattle.watched.specs.Streams.{Gets}
use Rattle.cli_world.specs.Acts.{Does, Effect, Happens, Prints, Replaces}
use Rattle.cli_world.specs.Acts.Acts.{acts, lost, refuses}
use Rattle.cli_world.specs.Acts.Does.{does, memory}
use Rattle.cli_world.specs.Acts.Effect.{prints, replaces, reports}
use Rattle.cli_world.specs.Acts.Happens.{printed, unprinted, reported, replaced, unreplaced}
use Rattle.cli_world.proofs.Refuted.{all_stay, others_stay}
use Rattle.cli_world.specs.Seen.{FilesStay, Seen}
use Rattle.cli_world.specs.Tallies.{plain}
use Rattle.cli_world.specs.declared.status.Status.{Status}
use Rattle.cli_world.specs.declared.status.Status.TheVariants.{Done, Found, Usage}
use Rattle.cli_world.specs.declared.tally.Tally.{Tally}
use Rattle.kdl_path.specs.declared.path.Path.{Path}
use Rattle.cli.specs.Asks.{Asks, AsksFile, Gives, delivery}
use Rattle.cli.specs.Asks.Asks.{gives, misused, not_there, refused}
use Rattle.cli.specs.Edits.{SetsFile}
use Rattle.cli.specs.Reports.{ReportsNotUtf8}
use Rattle.cli.specs.Requests.{RunsAsk}
use Rattle.cli.specs.Shown.{asked}
use Rattle.cli_shown.specs.Values.{line_of, shown_value}
use Rattle.kdl.specs.Words.{IsDocument, Nodes, Value}
use Rattle.kdl_grammar.proofs.Reading.Erased.{one_document}
use Rattle.kdl_path.proofs.Made.{made_found}
use Rattle.kdl_path.specs.Paths.{at_path}
use Rattle.kdl_json.specs.Form.{json_text}
use Rattle.std.specs.List.{flat_map}
use Rattle.cli.specs.declared.ask.Action.{Action}
use Rattle.cli.specs.declared.ask.Action.TheVariants.{Get, Json, Set}
use Rattle.cli.specs.declared.ask.Ask.{Ask}
use Rattle.cli.specs.declared.report.Style.{Style}

pub some_same : {A : Type 0} {a b : A} → Some a ≡ Some b → a ≡ b
some_same e = cc

pub nothing_appended : (before out : List ℕ) → before ≡ before ++ out → out ≡ []
nothing_appended before out e = append_cancel_left before out [] (sym e ∙ sym (append-nil before))

no_line : (a b : List ℕ) → [] ≡ (a ++ (10 ∷ [])) ++ b → ⊥
no_line [] b e = absurd cc
no_line (x ∷ a) b e = absurd cc

-- a report with another status than `Done`
pub report_not_done : (name b : List ℕ) (old new : Seen) (s : Status) (t : Tally) → (s ≡ Done → ⊥) → Happens name old new (reports b s) t → t.status ≡ Done → ⊥
report_not_done name b old new s t n (reported r) d = n d

-- a report on bytes that are not UTF-8
pub bad_not_done : (style : Style) (name bytes : List ℕ) (old new : Seen) (t : Tally) → Does (ReportsNotUtf8 style name bytes) name old new t → t.status ≡ Done → ⊥
bad_not_done style name bytes old new _ (does {e} {t} (error, bad, is) h) d = report_not_done _ _ old new Found t (λ e. cc) (subst (λ (x : Effect). Happens name old new x t) is h) d
bad_not_done style name bytes old new _ (memory r) d = cc

-- what is done for an action that ends with `Done`
given : (ask : Ask) (old new : Seen) (e : Effect) (t : Tally) (text : List ℕ) → Asks ask text e → Happens ask.name.now old new e t → t.status ≡ Done
    → (out : List ℕ) × Gives ask.action text out × Happens ask.name.now old new (delivery ask.replace text out) t
given ask old new e t text (gives out g is) h d = (out, g, subst (λ (x : Effect). Happens ask.name.now old new x t) is h)
given ask old new e t text (not_there why _) h d = absurd (report_not_done _ _ old new Found t (λ e. cc) h d)
given ask old new e t text (misused why _) h d = absurd (report_not_done _ _ old new Usage t (λ e. cc) h d)
given ask old new e t text (refused _ (error, faulty, is)) h d = absurd (report_not_done _ _ old new Found t (λ e. cc) (subst (λ (x : Effect). Happens ask.name.now old new x t) is h) d)

done_given : (ask : Ask) (old new : Seen) (t : Tally) (text : List ℕ) → Does (Asks ask text) ask.name.now old new t → t.status ≡ Done
    → (out : List ℕ) × Gives ask.action text out × Happens ask.name.now old new (delivery ask.replace text out) t
done_given ask old new _ text (does {e} {t} p h) d = given ask old new e t text p h d
done_given ask old new _ text (memory r) d = absurd cc

file_given : (ask : Ask) (old new : Seen) (t : Tally) (text : List ℕ) → AsksFile ask old new t → t.status ≡ Done → old.files ask.name.now ≡ Some text
    → (out : List ℕ) × Gives ask.action text out × Happens ask.name.now old new (delivery ask.replace text out) t
file_given ask old new _ text (acts {text = text'} {t} has u done) d f =
    subst (λ (x : List ℕ). (out : List ℕ) × Gives ask.action x out × Happens ask.name.now old new (delivery ask.replace x out) t) (sym (has text f)) (done_given ask old new t text' done d)
file_given ask old new t text (refuses {bytes} has bad done) d f = absurd (bad_not_done ask.style ask.name.now bytes old new t done d)
file_given ask old new _ text (lost l) d f = absurd cc

-- what is printed, and what is replaced, with `Done`
pub done_printed : (name out : List ℕ) (old new : Seen) (t : Tally) → Happens name old new (prints out (plain Done)) t → t.status ≡ Done → Prints out old new
done_printed name out old new _ (printed p) d = p
done_printed name out old new _ (unprinted u) d = absurd cc

pub done_replaced : (name out : List ℕ) (old new : Seen) (t : Tally) → Happens name old new (replaces out) t → t.status ≡ Done → Replaces name out old new
done_replaced name out old new _ (replaced p) d = p
done_replaced name out old new _ (unreplaced u) d = absurd cc

-- the file afterwards
in_file : (name text out : List ℕ) (old new : Seen) (t : Tally) (b : Bool) → bytes_eq text out ≡ b → Happens name old new (if b then prints [] (plain Done) else replaces out) t
    → t.status ≡ Done → old.files name ≡ Some text → new.files name ≡ Some out
in_file name text out old new t true e h d f = (done_printed name [] old new t h d).files.0 name ∙ f ∙ ap Some ((bytes_eq-Decides text out).0 e)
in_file name text out old new t false e h d f = (done_replaced name out old new t h d).files.this text f

pub left_in_file : (ask : Ask) (old new : Seen) (t : Tally) (text : List ℕ) → AsksFile ask old new t → t.status ≡ Done → ask.replace ≡ true → old.files ask.name.now ≡ Some text
    → (out : List ℕ) × Gives ask.action text out × (new.files ask.name.now ≡ Some out)
left_in_file ask old new t text a d r f = go (file_given ask old new t text a d f)
  where
    go : (out : List ℕ) × Gives ask.action text out × Happens ask.name.now old new (delivery ask.replace text out) t → (out : List ℕ) × Gives ask.action text out × (new.files ask.name.now ≡ Some out)
    go (out, g, h) = (out, g, in_file ask.name.now text out old new t (bytes_eq text out) refl (subst (λ (b : Bool). Happens ask.name.now old new (delivery b text out) t) r h) d f)

-- the output afterwards
appended : (a b : Option (List ℕ)) (before out : List ℕ) → a ≡ Some before → Appends a b out → b ≡ Some (before ++ out)
appended (Some xs) (Some ys) before out e h = ap Some (h ∙ ap (λ (l : List ℕ). l ++ out) (some_same e))
appended (Some xs) None before out e h = absurd h
appended None b before out e h = absurd cc

pub got : (out before : List ℕ) (old new : Seen) → Gets out old.out new.out → old.out.bytes ≡ Some before → new.out.failed ≡ false → new.out.bytes ≡ Some (before ++ out)
got out before old new (inl (grows, same)) e f = appended old.out.bytes new.out.bytes before out e grows
got out before old new (inr (cut, failed)) e f = absurd cc

pub put_on_output : (ask : Ask) (old new : Seen) (t : Tally) (text before : List ℕ) → AsksFile ask old new t → t.status ≡ Done → ask.replace ≡ false → old.files ask.name.now ≡ Some text
    → old.out.bytes ≡ Some before → new.out.failed ≡ false → (out : List ℕ) × Gives ask.action text out × (new.out.bytes ≡ Some (before ++ out))
put_on_output ask old new t text before a d r f b n = go (file_given ask old new t text a d f)
  where
    go : (out : List ℕ) × Gives ask.action text out × Happens ask.name.now old new (delivery ask.replace text out) t → (out : List ℕ) × Gives ask.action text out × (new.out.bytes ≡ Some (before ++ out))
    go (out, g, h) = (out, g, got out before old new (done_printed ask.name.now out old new t (subst (λ (b : Bool). Happens ask.name.now old new (delivery b text out) t) r h) d).out b n)

-- `set`
pub set_in_file : (path : Bor Path) (value : Bor (List ℕ)) (create : Bool) (ask : Ask) (old new : Seen) (t : Tally) → AsksFile ask old new t → t.status ≡ Done → ask.replace ≡ true
    → ask.action ≡ Set path value create → SetsFile path.now value.now create ask.name.now old new
set_in_file path value create ask old new t a d r is text f =
    subst (λ (x : Action). (out : List ℕ) × Gives x text out × (new.files ask.name.now ≡ Some out)) is (left_in_file ask old new t text a d r f)

pub made_there : (path : Bor Path) (value : Bor (List ℕ)) (create : Bool) (text out : List ℕ) (x y : Nodes) → Gives (Set path value create) text out → IsDocument (chars text) x → at_path path.now x ≡ None
    → IsDocument (chars out) y → IsSome (at_path path.now y)
made_there path value create text out x y (z, d, set, made, found) e none f =
    let (v, reads, at) = made_found path.now (chars value.now) (chars text) (chars out) x y (made (ap (at_path path.now) (one_document (chars text) z x d e) ∙ none)) e f in
    subst (λ (o : Option Value). IsSome o) (sym at) refl

-- nothing is done
pub unchanged : (ask : Ask) (s : Seen) (t : Tally) (text : List ℕ) → AsksFile ask s s t → t.status ≡ Done → ask.replace ≡ true → s.files ask.name.now ≡ Some text → Gives ask.action text text
unchanged ask s t text a d r f = go (left_in_file ask s s t text a d r f)
  where
    go : (out : List ℕ) × Gives ask.action text out × (s.files ask.name.now ≡ Some out) → Gives ask.action text text
    go (out, g, h) = subst (λ (x : List ℕ). Gives ask.action text x) (some_same (sym h ∙ f)) g

pub unshown : (ask : Ask) (s : Seen) (t : Tally) (text before : List ℕ) → AsksFile ask s s t → t.status ≡ Done → ask.replace ≡ false → s.files ask.name.now ≡ Some text
    → s.out.bytes ≡ Some before → s.out.failed ≡ false → Gives ask.action text []
unshown ask s t text before a d r f b n = go (put_on_output ask s s t text before a d r f b n)
  where
    go : (out : List ℕ) × Gives ask.action text out × (s.out.bytes ≡ Some (before ++ out)) → Gives ask.action text []
    go (out, g, h) = subst (λ (x : List ℕ). Gives ask.action text x) (nothing_appended before out (some_same (sym b ∙ h))) g

-- something is shown
pub some_value : (path : Bor Path) (raw all : Bool) (text : List ℕ) → Gives (Get path raw all) text [] → ⊥
some_value path raw all text (x, d, some, e) = go (asked path.now all x) some e
  where
    go : (vs : List Value) → (vs ≡ [] → ⊥) → [] ≡ flat_map (line_of raw) vs → ⊥
    go [] some e = some refl
    go (v ∷ vs) some e = no_line (encode_utf8_all (shown_value raw v)) (flat_map (line_of raw) vs) e

pub some_json : (text : List ℕ) → Gives Json text [] → ⊥
some_json text (x, d, e) = no_line (json_text x) [] (e ∙ sym (append-nil (json_text x ++ (10 ∷ []))))

-- a run that sets a value
pub set_by_run : (path : Bor Path) (value : Bor (List ℕ)) (create : Bool) (ask : Ask) (old new : Seen) → RunsAsk ask old new Done → ask.replace ≡ true
    → ask.action ≡ Set path value create → SetsFile path.now value.now create ask.name.now old new
set_by_run path value create ask old new (inl h) kept is = let e = h.1.0 in absurd cc
set_by_run path value create ask old new (inr (no-input, (t, f, e))) kept is = set_in_file path value create ask old new t f (sym e) kept is

-- what a run of an action leaves as it was
pub others_by_run : (ask : Ask) (other : List ℕ) (old new : Seen) (s : Status) → RunsAsk ask old new s → (other ≡ ask.name.now → ⊥) → new.files other ≡ old.files other
others_by_run ask other old new s (inl h) is = h.1.1.1.files.0 other
others_by_run ask other old new s (inr (no-input, (t, f, e))) is = others_stay (Asks ask) (ReportsNotUtf8 ask.style ask.name.now) ask.name.now other old new t f is

pub all_by_run : (ask : Ask) (old new : Seen) (s : Status) → RunsAsk ask old new s → (s ≡ Done → ⊥) → FilesStay old new
all_by_run ask old new s (inl h) is = h.1.1.1.files
all_by_run ask old new s (inr (no-input, (t, f, e))) is = all_stay (Asks ask) (ReportsNotUtf8 ask.style ask.name.now) ask.name.now old new t f (λ d. is (e ∙ d))
