-- Faults that are written.
use Rattle.std.proofs.Common.{arith, suc, length-append, ◌≡◌, ◌++◌, ◌∷◌, ◌∙◌, ◌+◌, ◌<◌, [], ℕ, ℤ, List, Option, None, Some, MatchOption, String, Global, ap, codes, decimal, get_or, length, option_and_then, option_map, refl, string_bytes, subst, sym, take}
use Rattle.std.proofs.lemmas.List.{append-nil, append_assoc, take_more}
use Rattle.json.specs.Token.{Token, begin_object, key, number, string}
use Rattle.kdl_text.specs.declared.error.KdlDiagnostic.{KdlDiagnostic}
use Rattle.lsp.specs.Faults.{AreDiagnostics, IsDiagnostic, IsFaultsNotice, PublishEach, PublishOne, known_at, message_in, range_in, range_tokens}
use Rattle.lsp.specs.Messages.{severity_number}
use Rattle.lsp_documents.specs.States.{document_at}
use Rattle.lsp_documents.specs.declared.state.Document.{Document}
use Rattle.lsp_documents.specs.declared.state.State.{State}
use Rattle.lsp_text.specs.declared.position.Encoding.{Encoding}
use Rattle.lsp_text.specs.declared.position.Range.{Range}

-- the tokens of a fault, by its range and the number of its severity
abbrev pub fault_tokens : KdlDiagnostic → Range → ℕ → List ℕ → List Token → List Token
fault_tokens d r n help more = begin_object ∷ (key (codes "range") ∷ range_tokens r)
    ++ key (codes "severity") ∷ number (decimal n) ∷ key (codes "source") ∷ string (codes "kdl") ∷ key (codes "message") ∷ string (message_in d ++ help) ∷ more

pub fault_is : (e : Encoding) (text : List ℕ) (d : KdlDiagnostic) (r : Range) (n : ℕ) (help : List ℕ) (more : List Token) → r ≡ range_in e text d → n ≡ severity_number d.severity → IsDiagnostic e text d (fault_tokens d r n help more)
fault_is e text d r n help more is also = (help, more, ap (λ x. fault_tokens d x n help more) is ∙ ap (λ k. fault_tokens d (range_in e text d) k help more) also)

-- one more fault
pub one_more_fault : (e : Encoding) (text : List ℕ) (ds : List KdlDiagnostic) (d : KdlDiagnostic) (ts us : List Token) → AreDiagnostics e text ds ts → IsDiagnostic e text d us → AreDiagnostics e text (ds ++ d ∷ []) (ts ++ us)
one_more_fault e text [] d ts us all is = (us, [], ap (λ x. x ++ us) all ∙ sym (append-nil us), is, refl)
one_more_fault e text (x ∷ ds) d ts us (xs, bs, split, first, all) is =
    (xs, bs ++ us, ap (λ z. z ++ us) split ∙ append_assoc xs bs us, first, one_more_fault e text ds d bs us all is)

-- the fault at a place is written, after those before it
pub fault_taken : (e f : Encoding) (text other : List ℕ) (ds : List KdlDiagnostic) (i : ℕ) (d : KdlDiagnostic) (ts us : List Token) → i < length ds → d ≡ get_or ds i d → f ≡ e → other ≡ text
    → AreDiagnostics e text (take i ds) ts → IsDiagnostic f other d us → AreDiagnostics e text (take (i + 1) ds) (ts ++ us)
fault_taken e f text other ds i d ts us inside at same alike all is =
    let here : IsDiagnostic e text d us = subst (λ t. IsDiagnostic e t d us) alike (subst (λ n. IsDiagnostic n other d us) same is) in
    let more : take i ds ++ d ∷ [] ≡ take (i + 1) ds = ap (λ x. take i ds ++ x ∷ []) at ∙ sym (take_more ds i d inside) in
    subst (λ l. AreDiagnostics e text l (ts ++ us)) more (one_more_fault e text (take i ds) d ts us all here)

abbrev pub EachBy : State → String Global → List (String Global) → List (String Global) → Option (Option ℤ × List ℕ) → Type 0
EachBy s u uris ms k = MatchOption k (PublishEach s uris ms)
    (λ k. (m : String Global) × (rest : List (String Global)) × (ms ≡ m ∷ rest) × IsFaultsNotice s.client.encoding (string_bytes u) k.0 k.1 m × PublishEach s uris rest)

abbrev OneBy : State → String Global → List (String Global) → Option (Option ℤ × List ℕ) → Type 0
OneBy s u ms k = MatchOption k (ms ≡ []) (λ k. (m : String Global) × (ms ≡ m ∷ []) × IsFaultsNotice s.client.encoding (string_bytes u) k.0 k.1 m)

each_alone : (s : State) (u : String Global) (k : Option (Option ℤ × List ℕ)) (ns ms : List (String Global)) → known_at s (string_bytes u) ≡ k → PublishOne s (string_bytes u) ns → ms ≡ ns → PublishEach s (u ∷ []) ms
each_alone s u None ns ms is one same = subst (EachBy s u [] ms) (sym is) (same ∙ subst (OneBy s u ns) is one)
each_alone s u (Some k) ns ms is one same =
    let o = subst (OneBy s u ns) is one in
    subst (EachBy s u [] ms) (sym is) (o.0, [], same ∙ o.1, o.2, refl)

each_after : (s : State) (u : String Global) (uris : List (String Global)) (uri : String Global) (k : Option (Option ℤ × List ℕ)) (ms ns : List (String Global)) → known_at s (string_bytes u) ≡ k
    → PublishEach s (u ∷ uris) ms → ((rest : List (String Global)) → PublishEach s uris rest → PublishEach s (uris ++ uri ∷ []) (rest ++ ns)) → PublishEach s (u ∷ (uris ++ uri ∷ [])) (ms ++ ns)
each_after s u uris uri None ms ns is all more = subst (EachBy s u (uris ++ uri ∷ []) (ms ++ ns)) (sym is) (more ms (subst (EachBy s u uris ms) is all))
each_after s u uris uri (Some k) ms ns is all more =
    let a = subst (EachBy s u uris ms) is all in
    subst (EachBy s u (uris ++ uri ∷ []) (ms ++ ns)) (sym is) (a.0, a.1 ++ ns, ap (λ x. x ++ ns) a.2, a.3, more a.1 a.4)

-- one more document
pub one_more_due : (s : State) (uris : List (String Global)) (uri : String Global) (ms ns : List (String Global)) → PublishEach s uris ms → PublishOne s (string_bytes uri) ns → PublishEach s (uris ++ uri ∷ []) (ms ++ ns)
one_more_due s [] uri ms ns all one = each_alone s uri (known_at s (string_bytes uri)) ns (ms ++ ns) refl one (ap (λ x. x ++ ns) all)
one_more_due s (u ∷ uris) uri ms ns all one = each_after s u uris uri (known_at s (string_bytes u)) ms ns refl all (λ rest others. one_more_due s uris uri rest ns others one)

pub due_taken : (s : State) (uris : List (String Global)) (i : ℕ) (d : String Global) (bytes : List ℕ) (ms ns : List (String Global)) → i < length uris → d ≡ get_or uris i d → bytes ≡ string_bytes d
    → PublishEach s (take i uris) ms → PublishOne s bytes ns → PublishEach s (take (i + 1) uris) (ms ++ ns)
due_taken s uris i d bytes ms ns inside at is all one =
    let more : take i uris ++ d ∷ [] ≡ take (i + 1) uris = ap (λ x. take i uris ++ x ∷ []) at ∙ sym (take_more uris i d inside) in
    subst (λ l. PublishEach s l (ms ++ ns)) more (one_more_due s (take i uris) d ms ns all (subst (λ b. PublishOne s b ns) is one))

-- the faults of a document are sent
pub one_sent : (s : State) (uri bytes : List ℕ) (d : Document) (text : String Global) (m : String Global) → document_at s uri ≡ Some d → d.text ≡ Some text → bytes ≡ string_bytes text
    → IsFaultsNotice s.client.encoding uri d.version bytes m → PublishOne s uri (m ∷ [])
one_sent s uri bytes d text m at known is notice =
    let with_text : Option (String Global) → Option (Option ℤ × List ℕ) = λ o. option_map (λ t. (d.version, string_bytes t)) o in
    let found : known_at s uri ≡ Some (d.version, string_bytes text) =
    ap (option_and_then (λ (x : Document). option_map (λ t. (x.version, string_bytes t)) x.text)) at ∙ ap with_text known in
    subst (λ k. MatchOption k ((m ∷ []) ≡ []) (λ k. (n : String Global) × ((m ∷ []) ≡ n ∷ []) × IsFaultsNotice s.client.encoding uri k.0 k.1 n)) (sym found)
    (m, refl, subst (λ b. IsFaultsNotice s.client.encoding uri d.version b m) is notice)

-- ---- what is not published

pub none_published : (s : State) (uri : String Global) (k : Option ℤ × List ℕ) → known_at s (string_bytes uri) ≡ Some k → PublishEach s (uri ∷ []) [] → ⊥
none_published s uri k known each =
    let a = subst (EachBy s uri [] []) known each in
    let h : 0 ≡ suc (length a.1) = ap length a.2 in
    absurd (omega (arith, h))

pub no_fewer : (e : Encoding) (text : List ℕ) (d : KdlDiagnostic) (ds : List KdlDiagnostic) → AreDiagnostics e text (d ∷ ds) [] → ⊥
no_fewer e text d ds (us, vs, split, first, all) =
    let h : 0 ≡ length us + length vs = ap length split ∙ length-append us vs in
    let l : length us ≡ suc _ = ap length first.2 in
    absurd (omega (arith, h, l))
