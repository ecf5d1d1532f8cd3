-- Texts that are no query.
use Rattle.std.proofs.Common.{◌≡◌, ◌∙◌, Bool, Err, Global, IfOk, List, None, Ok, Result, String, ap, chars, codes, string_bytes, subst, sym, ℕ}
use Rattle.std.specs.Str.{encode_utf8_all}
use Rattle.std.proofs.lemmas.Str.{IsUtf8-string_bytes, encodes-chars}
use Rattle.kdl_query.specs.Data as data'
use Rattle.kdl_query.specs.QueryText.{IsQuery}
use Rattle.kdl_query.specs.Refusals.{IsSyntax, LocatesFault}
use Rattle.kdl_query.specs.declared.error.QueryError.{QueryError}
use Rattle.kdl_query.specs.declared.error.QueryFailure.{QueryFailure}
use Rattle.kdl_query.specs.declared.error.QueryFailure.TheVariants.{Syntax}
use Rattle.kdl_query.specs.declared.tree.Query.{Query}
use Rattle.kdl_report.specs.Picture.{picture}
use Rattle.kdl_text.specs.Chars.{Text}
use Rattle.kdl_text.specs.declared.error.KdlDiagnostic.{KdlDiagnostic}
use Rattle.cli.specs.Searches.{IsFault, IsPicture, IsReadQuery}

-- the picture of a fault in bytes
pub pictured : {E : Type 0} (color : Bool) (text : List ℕ) (error : QueryError) (fault : KdlDiagnostic) (lines : Text) (r : Result (String Global) E) → IsFault error fault → lines ≡ chars text
    → IfOk r (λ out. chars (string_bytes out) ≡ picture color (chars (codes "<query>")) lines fault None) → IfOk r (λ out. IsPicture color text error (string_bytes out))
pictured color text error fault lines (Err e) is same shows = shows
pictured color text error fault lines (Ok out) is same shows =
    (fault, is, sym (encodes-chars (string_bytes out) (IsUtf8-string_bytes out)) ∙ ap encode_utf8_all (shows ∙ ap (λ (t : Text). picture color (chars (codes "<query>")) t fault None) same))

-- a refused text, with the picture of its error
pub refused_query : (color : Bool) (text : List ℕ) (r : Result Query QueryFailure) (f : QueryFailure) (e : QueryError) (out : String Global) → r ≡ Err f → f ≡ Syntax e
    → (IsSyntax r → (x : data'.Query) → IsQuery (chars text) x → ⊥) → LocatesFault (chars text) r → IsPicture color text e (string_bytes out) → IsReadQuery color text (Err out)
refused_query color text r f e out is is' refused located shows =
    let same = is ∙ ap Err is' in
    (subst (λ (q : Result Query QueryFailure). IsSyntax q → (x : data'.Query) → IsQuery (chars text) x → ⊥) same refused tt, (e, subst (LocatesFault (chars text)) same located, shows))
