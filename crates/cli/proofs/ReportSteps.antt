-- The bytes of reports.
use Rattle.std.proofs.Common.{◌≡◌, ◌∙◌, ◌∷◌, [], ◌++◌, Bool, Global, IfOk, List, OnOk, Result, Ok, Err, String, ap, append_assoc, chars, codes, cond, decimal, is_ok, option_map, string_bytes, subst, sym, ℕ}
use Rattle.std.proofs.lemmas.Bool.{ne_eqb}
use Rattle.std.proofs.lemmas.Str.{IsUtf8-string_bytes, encodes-append, encodes-chars}
use Rattle.std.specs.Str.{encode_utf8_all}
use Rattle.kdl.specs.Words.{IsDocument, Nodes}
use Rattle.kdl_report.specs.Hints.{hint_of}
use Rattle.kdl_report.specs.Picture.{one_line, picture}
use Rattle.kdl_text.specs.declared.error.KdlDiagnostic.{KdlDiagnostic}
use Rattle.kdl_text.specs.Failures.{IsSyntax, TellsOnSyntax}
use Rattle.kdl_text.specs.declared.error.KdlError.{KdlError}
use Rattle.kdl_text.specs.declared.error.ParseFailure.{ParseFailure}
use Rattle.kdl_text.specs.declared.error.ParseFailure.TheVariants.{Syntax}
use Rattle.cli_world.proofs.Acting.{Does-map}
use Rattle.cli_world.specs.Acts.{Does, Happens}
use Rattle.cli_world.specs.Acts.Does.{does}
use Rattle.cli_world.specs.Acts.Effect.{reports}
use Rattle.cli_world.specs.Seen.{Seen}
use Rattle.cli_world.specs.declared.status.Status.TheVariants.{Found}
use Rattle.cli_world.specs.declared.tally.Tally.{Tally}
use Rattle.kdl_path.specs.Failures.{TextFails}
use Rattle.cli.specs.Reports.{IsNotUtf8, ReportsError, ReportsNotUtf8, fault_report, faults_report, front, rest_line}
use Rattle.cli.specs.declared.report.Form.{Form}
use Rattle.cli.specs.declared.report.Form.TheVariants.{Human, Short}
use Rattle.cli.specs.declared.report.Style.{Style}

-- the bytes of a text are those of its characters
bytes_are : (s : String Global) (t : List ℕ) → chars (string_bytes s) ≡ t → string_bytes s ≡ encode_utf8_all t
bytes_are s t e = sym (encodes-chars (string_bytes s) (IsUtf8-string_bytes s)) ∙ ap encode_utf8_all e

-- a picture, with an empty line after it
pub picture_is : (s : String Global) (out : List ℕ) (color : Bool) (name lines text : List ℕ) (fault : KdlDiagnostic) → chars (string_bytes s) ≡ picture color (chars name) lines fault (option_map chars (hint_of lines fault))
    → out ≡ string_bytes s ++ (10 ∷ []) → lines ≡ chars text → out ≡ fault_report Human color name text fault
unfolding lib.Utf8.encode
picture_is s out color name lines text fault is pushed same =
    let drawn : List ℕ → List ℕ = λ t. picture color (chars name) t fault (option_map chars (hint_of t fault)) in
    pushed ∙ (ap (λ (t : List ℕ). t ++ (10 ∷ [])) (bytes_are s _ (is ∙ ap drawn same)) ∙ sym (encodes-append (drawn (chars text)) (10 ∷ [])))

-- a fault on one line
pub short_is : {E : Type 0} (r : Result (String Global) E) (form : Form) (color : Bool) (name lines : List ℕ) (fault : KdlDiagnostic) → form ≡ Short → IfOk r (λ s. chars (string_bytes s) ≡ one_line (chars name) lines fault)
    → IfOk r (λ s. (text : List ℕ) → lines ≡ chars text → string_bytes s ≡ fault_report form color name text fault)
short_is (Ok s) form color name lines fault is short =
    λ text same. bytes_are s _ (short ∙ ap (λ (t : List ℕ). one_line (chars name) t fault) same) ∙ ap (λ (f : Form). fault_report f color name text fault) (sym is)
short_is (Err e) form color name lines fault is short = short

-- a text that is refused is no document, and its error tells its faults
pub is_faulty : {A : Type 0} (text : List ℕ) (r : Result A ParseFailure) (f : ParseFailure) (error : KdlError) → r ≡ Err f → f ≡ Syntax error → (IsSyntax r → (x : Nodes) → IsDocument (chars text) x → ⊥) → TellsOnSyntax text r
    → TextFails text error
is_faulty text r f error is e refused tells =
    let same = is ∙ ap Err e in
    (subst (λ q. IsSyntax q → (x : Nodes) → IsDocument (chars text) x → ⊥) same refused tt, subst (λ q. TellsOnSyntax text q) same tells)

-- the faults are reported
pub does_report : (style : Style) (name text bytes : List ℕ) (error : KdlError) (old new : Seen) (t : Tally) → bytes ≡ faults_report style name text error.diagnostics.items → Happens name old new (reports bytes Found) t
    → Does (ReportsError style name text error) name old new t
does_report style name text bytes error old new t is h = does (ap (λ (b : List ℕ). reports b Found) is) h

-- that bytes are not UTF-8 is reported
pub bad_reported : (style : Style) (name bytes text : List ℕ) (error : KdlError) (old new : Seen) (t : Tally) → text ≡ front bytes → IsNotUtf8 text error → Does (ReportsError style name text error) name old new t
    → Does (ReportsNotUtf8 style name bytes) name old new t
bad_reported style name bytes text error old new t same bad d =
    Does-map (ReportsError style name text error) (ReportsNotUtf8 style name bytes)
    (λ e p. (error, subst (λ (x : List ℕ). IsNotUtf8 x error) same bad, subst (λ (x : List ℕ). ReportsError style name x error e) same p)) name old new t d

-- the line on faults that are left out is appended
pub rest_written : {A E : Type 0} (r : Result A E) (n : ℕ) (old a b new digits : List ℕ) → (n ≡ 0 → ⊥) → a ≡ old ++ codes "and " → b ≡ a ++ digits → digits ≡ decimal n
    → new ≡ cond (is_ok r) (b ++ codes " more: `kdl check --all` shows them\n\n") b → OnOk r (new ≡ old ++ rest_line n)
rest_written (Ok u) n old a b new digits some ea eb is e =
    let rest = codes " more: `kdl check --all` shows them\n\n" in
    let line : rest_line n ≡ codes "and " ++ decimal n ++ rest = ap (λ (x : Bool). cond x [] (codes "and " ++ decimal n ++ rest)) (ne_eqb n 0 some) in
    let whole : new ≡ ((old ++ codes "and ") ++ decimal n) ++ rest = e ∙ ap (λ (t : List ℕ). t ++ rest) (eb ∙ (ap (λ (t : List ℕ). t ++ digits) ea ∙ ap (λ (t : List ℕ). (old ++ codes "and ") ++ t) is)) in
    whole ∙ (append_assoc (old ++ codes "and ") (decimal n) rest ∙ (append_assoc old (codes "and ") (decimal n ++ rest) ∙ ap (λ (t : List ℕ). old ++ t) (sym (append_assoc (codes "and ") (decimal n) rest) ∙ sym line)))
rest_written (Err u) n old a b new digits some ea eb is e = tt
