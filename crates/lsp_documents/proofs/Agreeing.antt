-- Documents of the server that are those of the client.
use Rattle.std.proofs.Common.{arith, ◌≡◌, ◌≢◌, ◌∙◌, ℕ, Bool, true, false, Option, None, Some, List, [], ◌∷◌, IfSome, IsNone, IsSome, IsSomeAnd, IsTrue, MatchOption, Decides, chars, is_none, map, option_map, string_bytes, sym, ap, subst, refl, ℤ, String, Global, Bor, ◌⊎◌, inl, inr, codes, unwrap_or, if◌then◌else◌, length, ◌||◌}
use Rattle.std.specs.BTreeMap.{get_by_text}
use Rattle.std.specs.List.{list_any}
use Rattle.std.specs.Str.{bytes_eq}
use Rattle.std.proofs.lemmas.Slice.Eq.{bytes_eq-Decides}
use Rattle.lsp_documents.specs.declared.state.Document.{Document}
use Rattle.lsp_documents.specs.declared.state.State.{State}
use Rattle.json.specs.Json.{Json}
use Rattle.lsp_documents.specs.Notes.{Agrees, HasChanges, IsOf, Note, Opened, Changed, Closed, Tells, Texts, after, text_of, uri_of, with_text}
use Rattle.lsp_documents.specs.Outcomes.{IsTaken}
use Rattle.lsp_documents.specs.States.{IsChanged, IsKnown, OthersStay, document_at, has_whole_text, known_text}
use Rattle.lsp_text.specs.declared.change.Change.{Change}
use Rattle.lsp_text.specs.declared.position.Encoding.{Encoding}
use Rattle.lsp_text.specs.declared.position.Range.{Range}
use Rattle.lsp_text.specs.Positions.{Text, all_changed, change_of, changed}

-- what holds at a URI and at the others
by_uri : (new : State) (texts : Texts) (uri : List ℕ) (w : Text) (other : List ℕ) (same : Bool) → Decides same (uri ≡ other)
    → IfSome (document_at new uri) (IsOf w) → (other ≢ uri → IfSome (document_at new other) (IsOf (texts other)))
    → IfSome (document_at new other) (IsOf (if same then w else texts other))
by_uri new texts uri w other true d here there = subst (λ u. IfSome (document_at new u) (IsOf w)) (d.0 refl) here
by_uri new texts uri w other false d here there = there (λ e. let f : false ≡ true = d.1 (sym e) in absurd (cc))

-- one document is of a new text of the client, and the others stay
pub agrees_after : (old new : State) (texts : Texts) (uri : List ℕ) (w : Text) → Agrees old texts → OthersStay old new uri
    → IfSome (document_at new uri) (IsOf w) → Agrees new (with_text texts uri w)
agrees_after old new texts uri w agrees stay here other =
    by_uri new texts uri w other (bytes_eq uri other) (bytes_eq-Decides uri other) here
    (λ differs. subst (λ d. IfSome d (IsOf (texts other))) (sym (stay other differs)) (agrees other))

-- a whole text makes no difference of the text before
pub whole_text_is_new : (e : Encoding) (cs : List (Option Range × Text)) (a b : Text) → IsTrue (list_any (λ c. is_none c.0) cs) → all_changed e cs a ≡ all_changed e cs b
whole_text_is_new e [] a b h = absurd (cc)
whole_text_is_new e ((None, t) ∷ cs) a b h = refl
whole_text_is_new e ((Some r, t) ∷ cs) a b h = whole_text_is_new e cs (changed e (Some r, t) a) (changed e (Some r, t) b) h

whole_text_of : (cs : List Change) → IsTrue (has_whole_text cs) → IsTrue (list_any (λ (c : Option Range × Text). is_none c.0) (map change_of cs))
whole_text_of [] h = h
whole_text_of (c ∷ cs) h = go (is_none c.range) (whole_text_of cs) h
  where
    go : (b : Bool) → (IsTrue (has_whole_text cs) → IsTrue (list_any (λ (c : Option Range × Text). is_none c.0) (map change_of cs)))
        → IsTrue (b || has_whole_text cs) → IsTrue (b || list_any (λ (c : Option Range × Text). is_none c.0) (map change_of cs))
    go true rest h = h
    go false rest h = rest h

-- what is known after changes is what the client has after them
pub changed_is_of : (e : Encoding) (cs : List Change) (version : Option ℤ) (old new : Document) (t : Text) → IsChanged e cs version old new → IsOf t old → IsOf (all_changed e (map change_of cs) t) new
changed_is_of e cs version old new t is of = go old.text new.text is.1 is.2 of
  where
    go : (k w : Option (String Global)) → IfSome w (λ s. chars (string_bytes s) ≡ all_changed e (map change_of cs) (known_text k))
        → (IsNone k → IsSome w → IsTrue (has_whole_text cs)) → IfSome k (λ s. chars (string_bytes s) ≡ t)
        → IfSome w (λ s. chars (string_bytes s) ≡ all_changed e (map change_of cs) t)
    go k None all whole known = tt
    go None (Some w) all whole known = all ∙ whole_text_is_new e (map change_of cs) [] t (whole_text_of cs (whole refl refl))
    go (Some k) (Some w) all whole known = all ∙ ap (all_changed e (map change_of cs)) known

-- the same of the document of a URI, and the others stay
pub agrees_changed : (e : Encoding) (cs : List Change) (version : Option ℤ) (old new : State) (texts : Texts) (uri : List ℕ) → Agrees old texts → OthersStay old new uri
    → MatchOption (document_at old uri) (IsNone (document_at new uri)) (λ d. IsSomeAnd (document_at new uri) (IsChanged e cs version d))
    → Agrees new (with_text texts uri (all_changed e (map change_of cs) (texts uri)))
agrees_changed e cs version old new texts uri agrees stay is = agrees_after old new texts uri _ agrees stay (go (document_at old uri) (document_at new uri) (agrees uri) is)
  where
    go : (a b : Option Document) → IfSome a (IsOf (texts uri)) → MatchOption a (IsNone b) (λ d. IsSomeAnd b (IsChanged e cs version d))
        → IfSome b (IsOf (all_changed e (map change_of cs) (texts uri)))
    go None None of is = tt
    go None (Some b) of is = absurd (cc)
    go (Some a) None of is = tt
    go (Some a) (Some b) of is = changed_is_of e cs version a b (texts uri) is of

-- the documents of a state, and no more of it, are those of the client
pub agrees_open : (old new : State) (texts : Texts) → new.open ≡ old.open → Agrees old texts → Agrees new texts
agrees_open old new texts same agrees uri = subst (λ held. IfSome (get_by_text held uri) (IsOf (texts uri))) (sym same) (agrees uri)

-- what a notification tells, by its method
pub change_told : (e : Encoding) (method : List ℕ) (params : Json) (old new : State) (note : Note) (texts : Texts) → method ≡ codes "textDocument/didChange" → Tells method params note
    → ((uri : List ℕ) (changes : List (Option Range × Text)) (texts : Texts) → uri_of params ≡ Some uri → HasChanges params changes → Agrees old texts
    → Agrees new (with_text texts uri (all_changed e changes (texts uri))))
    → Agrees old texts → Agrees new (after e note texts)
change_told e method params old new (Opened uri text) texts is tells told agrees = let lengths : 22 ≡ 20 = ap length (sym is ∙ tells.0) in absurd (omega (arith, lengths))
change_told e method params old new (Changed uri changes) texts is tells told agrees = told uri changes texts tells.1 tells.2 agrees
change_told e method params old new (Closed uri) texts is tells told agrees = let lengths : 22 ≡ 21 = ap length (sym is ∙ tells.0) in absurd (omega (arith, lengths))

pub open_untold : (method : List ℕ) (params : Json) → method ≡ codes "textDocument/didOpen" → ((note : Note) → Tells method params note → ⊥) → (uri_of params ≡ None) ⊎ (text_of params ≡ None)
open_untold method params is none = go (uri_of params) (text_of params) refl refl
  where
    go : (u t : Option (List ℕ)) → uri_of params ≡ u → text_of params ≡ t → (uri_of params ≡ None) ⊎ (text_of params ≡ None)
    go None t uri text = inl uri
    go (Some u) None uri text = inr text
    go (Some u) (Some t) uri text = absurd (none (Opened u (chars t)) (is, uri, ap (option_map chars) text))

-- a text is known after it is opened
pub open_taken : (method : List ℕ) (params : Json) (old new : State) (Says : List ℕ → Type 0) (note : Note) → method ≡ codes "textDocument/didOpen" → Tells method params note
    → ((uri : List ℕ) → uri_of params ≡ Some uri → IsSome (text_of params) → (Says uri → ⊥) → IsKnown new uri) → IsTaken old new Says note
open_taken method params old new Says (Opened uri text) is tells known = known uri tells.1 (go (text_of params) tells.2)
  where
    go : (t : Option (List ℕ)) → option_map chars t ≡ Some text → IsSome t
    go None mapped = absurd (cc)
    go (Some t) mapped = refl
open_taken method params old new Says (Changed uri changes) is tells known = let lengths : 20 ≡ 22 = ap length (sym is ∙ tells.0) in absurd (omega (arith, lengths))
open_taken method params old new Says (Closed uri) is tells known = let lengths : 20 ≡ 21 = ap length (sym is ∙ tells.0) in absurd (omega (arith, lengths))

-- there is one URI
pub one_uri : (found : Option (Bor (List ℕ))) (u : Bor (List ℕ)) (params : Json) (uri : List ℕ) → option_map (λ s. s.now) found ≡ uri_of params → found ≡ Some u → uri_of params ≡ Some uri → u.now ≡ uri
one_uri found u params uri is so other = ap (λ o. unwrap_or o u.now) (sym (ap (option_map (λ s. s.now)) so) ∙ is ∙ other)
