-- The results of actions.
use Rattle.std.proofs.Common.{Bor, None, [], ◌==◌, true, false, length, ◌∙◌, ap, append-nil, refl, ◌≡◌, List, ℕ, Bool, Global, IsSome, Option, encode_utf8_all, Ok, Err, Result, String, chars, inl, inr, string_bytes, subst, sym}
use Rattle.std.specs.List.{flat_map}
use Rattle.std.specs.Option.{option_to_list}
use Rattle.std.proofs.lemmas.Bool.{eqb-true}
use Rattle.std.proofs.lemmas.List.{nil_from_length}
use Rattle.std.proofs.lemmas.Option.{none-some}
use Rattle.kdl.specs.Words.{DocumentKeepsNoForm, IsDocument, Nodes, Value, FormatsDocument, RereadsDocument, document_prints, document_says, without_comments}
use Rattle.kdl.specs.declared.document.KdlDocument.{KdlDocument}
use Rattle.kdl_json.specs.Form.{IsJsonOf}
use Rattle.kdl_layout.proofs.Texts.{printed_text}
use Rattle.kdl_path.specs.Paths.{all_at, at_path}
use Rattle.kdl_path.proofs.Reached.{none_there}
use Rattle.kdl_path.specs.Each.{RemoveEachFails, SetEachFails}
use Rattle.kdl_path.specs.Edits.{HasPlace, IsInsertedAt, IsMadeAt, IsSetAt, named_at, without}
use Rattle.kdl_path.specs.Failures.{InsertFails, RemoveFails, SetFails, TextFails}
use Rattle.kdl_path.specs.declared.failure.EditFailure.{EditFailure}
use Rattle.kdl_path.specs.declared.failure.EditFailure.TheVariants as edit
use Rattle.kdl_path.specs.declared.path.Path.{Path}
use Rattle.kdl_path.specs.declared.path.Target.{Target}
use Rattle.kdl_query.specs.Tree.{query_says}
use Rattle.kdl_query.specs.declared.tree.Query.{Query}
use Rattle.kdl_text.specs.declared.error.ParseFailure.{ParseFailure}
use Rattle.kdl_text.specs.declared.error.ParseFailure.TheVariants.{Syntax, Memory}
use Rattle.cli_shown.specs.Values.{line_of}
use Rattle.cli.specs.Asks.{IsMisused, IsNotThere, IsOnDocument}
use Rattle.cli.specs.Edits.{IsInserted, IsRemoved, IsSet}
use Rattle.cli.specs.Internal.Applied.{Applies, IsUnedited, ShowsAt}
use Rattle.cli.specs.declared.ask.Action.{Action}
use Rattle.cli.specs.declared.ask.Action.TheVariants.{FromJson, Get, Insert, Remove, RemoveEach, Set, SetEach}
use Rattle.cli.specs.declared.ask.Applied.{Applied}
use Rattle.cli.specs.declared.ask.Applied.TheVariants.{Text, NotFound, Usage}

-- what a failed edit says of an action and a text
abbrev Fails : Action → List ℕ → EditFailure → Type 0
Fails a text (edit.Text e) = IsOnDocument a × TextFails text e
Fails a text (edit.Missing m) = IsNotThere a text
Fails a text edit.Memory = Unit {0}
Fails a text _ = IsMisused a

unmade : (a : Action) (text : List ℕ) (f : EditFailure) (r : Result Applied ParseFailure) → Fails a text f → IsUnedited f r → Applies a text r
unmade a text (edit.Text e) r h k = subst (Applies a text) (sym k) h
unmade a text f (Err Memory) h k = tt
unmade a text (edit.Missing m) (Ok (NotFound s)) h k = h
unmade a text (edit.Missing m) (Ok (Text s)) h k = absurd k
unmade a text (edit.Missing m) (Ok (Usage s)) h k = absurd k
unmade a text (edit.Missing m) (Err (Syntax e)) h k = absurd k
unmade a text edit.Value (Ok (Usage s)) h k = h
unmade a text edit.Value (Ok (Text s)) h k = absurd k
unmade a text edit.Value (Ok (NotFound s)) h k = absurd k
unmade a text edit.Value (Err (Syntax e)) h k = absurd k
unmade a text (edit.Node e) (Ok (Usage s)) h k = h
unmade a text (edit.Node e) (Ok (Text s)) h k = absurd k
unmade a text (edit.Node e) (Ok (NotFound s)) h k = absurd k
unmade a text (edit.Node e) (Err (Syntax x)) h k = absurd k
unmade a text edit.NotNode (Ok (Usage s)) h k = h
unmade a text edit.NotNode (Ok (Text s)) h k = absurd k
unmade a text edit.NotNode (Ok (NotFound s)) h k = absurd k
unmade a text edit.NotNode (Err (Syntax e)) h k = absurd k
unmade a text edit.Memory (Ok (Text s)) h k = absurd k
unmade a text edit.Memory (Ok (NotFound s)) h k = absurd k
unmade a text edit.Memory (Ok (Usage s)) h k = absurd k
unmade a text edit.Memory (Err (Syntax e)) h k = absurd k

-- an edit that was not made
pub unset : (p : Bor Path) (v : Bor (List ℕ)) (create : Bool) (text : List ℕ) (f : EditFailure) (r : Result Applied ParseFailure) → SetFails p.now v.now text create f → IsUnedited f r → Applies (Set p v create) text r
unset p v create text f r h k = unmade (Set p v create) text f r (go f h) k
  where
    go : (f : EditFailure) → SetFails p.now v.now text create f → Fails (Set p v create) text f
    go (edit.Text e) h = (tt, h)
    go (edit.Missing m) h = h
    go edit.Value h = h
    go (edit.Node e) h = absurd h
    go edit.NotNode h = absurd h
    go edit.Memory h = h

pub unremoved : (p : Bor Path) (text : List ℕ) (f : EditFailure) (r : Result Applied ParseFailure) → RemoveFails p.now text f → IsUnedited f r → Applies (Remove p) text r
unremoved p text f r h k = unmade (Remove p) text f r (go f h) k
  where
    go : (f : EditFailure) → RemoveFails p.now text f → Fails (Remove p) text f
    go (edit.Text e) h = (tt, h)
    go (edit.Missing m) h = h
    go edit.Value h = absurd h
    go (edit.Node e) h = absurd h
    go edit.NotNode h = absurd h
    go edit.Memory h = h

pub unset_each : (q : Bor Query) (t : Bor Target) (v : Bor (List ℕ)) (text : List ℕ) (f : EditFailure) (r : Result Applied ParseFailure) → SetEachFails (query_says q.now) t.now v.now text f → IsUnedited f r → Applies (SetEach q t v) text r
unset_each q t v text f r h k = unmade (SetEach q t v) text f r (go f h) k
  where
    go : (f : EditFailure) → SetEachFails (query_says q.now) t.now v.now text f → Fails (SetEach q t v) text f
    go (edit.Text e) h = (tt, h)
    go (edit.Missing m) h = h
    go edit.Value h = h
    go (edit.Node e) h = absurd h
    go edit.NotNode h = absurd h
    go edit.Memory h = h

pub unremoved_each : (q : Bor Query) (t : Bor Target) (text : List ℕ) (f : EditFailure) (r : Result Applied ParseFailure) → RemoveEachFails (query_says q.now) t.now text f → IsUnedited f r → Applies (RemoveEach q t) text r
unremoved_each q t text f r h k = unmade (RemoveEach q t) text f r (go f h) k
  where
    go : (f : EditFailure) → RemoveEachFails (query_says q.now) t.now text f → Fails (RemoveEach q t) text f
    go (edit.Text e) h = (tt, h)
    go (edit.Missing m) h = h
    go edit.Value h = absurd h
    go (edit.Node e) h = absurd h
    go edit.NotNode h = absurd h
    go edit.Memory h = h

pub uninserted : (p : Bor Path) (n : Bor (List ℕ)) (text : List ℕ) (f : EditFailure) (r : Result Applied ParseFailure) → InsertFails p.now n.now text f → IsUnedited f r → Applies (Insert p n) text r
uninserted p n text f r h k = unmade (Insert p n) text f r (go f h) k
  where
    go : (f : EditFailure) → InsertFails p.now n.now text f → Fails (Insert p n) text f
    go (edit.Text e) h = (tt, h)
    go (edit.Missing m) h = h
    go edit.Value h = absurd h
    go (edit.Node e) h = inr h
    go edit.NotNode h = inl h
    go edit.Memory h = h

-- an edit that was made, of a document
pub set_found : (p : Path) (value : List ℕ) (create : Bool) (text new : List ℕ) → ((x : Nodes) → IsDocument (chars text) x → IsSome (at_path p x) → IsSetAt p (chars value) (chars text) (chars new))
    → ((x : Nodes) → IsDocument (chars text) x → at_path p x ≡ None → IsMadeAt p (chars value) (chars text) (chars new))
    → (x : Nodes) × IsDocument (chars text) x × (create ≡ false → IsSome (at_path p x)) → IsSet p value create text new
set_found p value create text new s m (x, d, n) = (x, d, s x d, m x d, n)

pub removed_found : (p : Path) (text new : List ℕ) → ((x : Nodes) → IsDocument (chars text) x → IsDocument (chars new) (without p x))
    → (x : Nodes) × IsDocument (chars text) x × IsSome (named_at p x) → IsRemoved p text new
removed_found p text new r (x, d, n) = (x, d, n, r x d)

pub inserted_found : (p : Path) (node text new : List ℕ) → IsInsertedAt p (chars node) (chars text) (chars new)
    → (x : Nodes) × IsDocument (chars text) x × HasPlace p.steps.items x → IsInserted p node text new
inserted_found p node text new i (x, d, h) = (x, d, h, i)

-- the one value at the path
pub one_shown : (p : Bor Path) (raw all : Bool) (text : List ℕ) (x : Nodes) (r : Result Applied ParseFailure) → all ≡ false → IsDocument (chars text) x → ShowsAt p.now raw x r → Applies (Get p raw all) text r
one_shown p raw true text x r a d h = absurd (cc)
one_shown p raw false text x (Ok (Text s)) a d (v, f, g) =
    let some : option_to_list (at_path p.now x) ≡ [] → ⊥ = subst (λ (o : Option Value). option_to_list o ≡ [] → ⊥) (sym f) (λ h. absurd (cc)) in
    (x, d, some, g ∙ sym (append-nil (line_of raw v)) ∙ ap (λ (o : Option Value). flat_map (line_of raw) (option_to_list o)) (sym f))
one_shown p raw false text x (Ok (NotFound s)) a d h = (x, d, ap option_to_list h)
one_shown p raw false text x (Ok (Usage s)) a d h = absurd h
one_shown p raw false text x (Err (Syntax f)) a d h = absurd h
one_shown p raw false text x (Err Memory) a d h = tt

-- no value is at the path
pub no_items : {A : Type 0} (xs : List A) (n : ℕ) → n ≡ length xs → true ≡ (n == 0) → xs ≡ []
no_items xs n l e = nil_from_length xs (sym l ∙ eqb-true n 0 (sym e))

pub none_shown : (p : Bor Path) (raw all : Bool) (text : List ℕ) (x : Nodes) (r : Result Applied ParseFailure) → all ≡ true → IsDocument (chars text) x → all_at p.now x ≡ [] → ShowsAt p.now raw x r → Applies (Get p raw all) text r
none_shown p raw all text x (Ok (Text s)) a d e (v, f, g) = absurd (none-some v (sym (none_there p.now x e) ∙ f))
none_shown p raw true text x (Ok (NotFound s)) a d e h = (x, d, e)
none_shown p raw false text x (Ok (NotFound s)) a d e h = absurd (cc)
none_shown p raw all text x (Ok (Usage s)) a d e h = absurd h
none_shown p raw all text x (Err (Syntax f)) a d e h = absurd h
none_shown p raw all text x (Err Memory) a d e h = tt

-- the canonical text of the data that a JSON is of
pub of_json : {E : Type 0} (text : List ℕ) (d d' e : KdlDocument) (u : Unit {0}) (s : String Global) → d' ≡ d → IsJsonOf text (document_says d) → DocumentKeepsNoForm d
    → FormatsDocument {E = E} without_comments d' e (Ok u) → RereadsDocument {E = E} without_comments d' e (Ok u) → string_bytes s ≡ encode_utf8_all (document_prints e) → Applies FromJson text (Ok (Text s))
of_json text d d' e u s same json none formats rereads bytes =
    let none' = subst DocumentKeepsNoForm (sym same) none in
    let printed : chars (string_bytes s) ≡ document_prints e = printed_text {E = Unit {0}} (Ok s) (document_prints e) bytes in
    let derived : IsDocument (chars (string_bytes s)) (document_says d') = subst (λ (t : List ℕ). IsDocument t (document_says d')) (sym printed) (rereads.derived refl none') in
    (document_says d', subst (λ (x : KdlDocument). IsJsonOf text (document_says x)) (sym same) json, bytes ∙ ap encode_utf8_all (formats.prints (refl, refl) none'), derived)
