-- What `==` of errors and of their parts means, on their trees.
use Rattle.kdl_laws.proofs.Common.{◌≡◌, List, [], ◌∷◌, map, Option, option_map, String, string_bytes, Global, ap, refl, Decides-and, Decides-eqb, Decides-like, bytes_eq-Decides, Decides, pointwise, option_eq, option_decides, KdlDiagnostic, KdlError, ParseFailure, Syntax, Memory, SourceSpan, diagnostic_tree, error_tree, failure_tree}
use Rattle.std.specs.Rc.{rc_str_bytes}
use Rattle.std.specs.String.{string_eq}
use Rattle.kdl_value.specs.contracts.float.FloatFailurePartialEq.TheImpl as float_failure_impl
use Rattle.kdl_text.specs.contracts.error.KdlDiagnosticPartialEq.TheImpl as diagnostic_impl
use Rattle.kdl_text.specs.contracts.error.KdlErrorPartialEq.TheImpl as error_impl
use Rattle.kdl_text.specs.contracts.error.ParseFailurePartialEq.TheImpl as failure_impl
use Rattle.kdl_text.specs.contracts.span.SeverityPartialEq.TheImpl as severity_impl
use Rattle.kdl_text.specs.contracts.span.SourceSpanPartialEq.TheImpl as span_impl
use Rattle.kdl_value.specs.declared.float.FloatFailure.{FloatFailure}
use Rattle.kdl_value.specs.declared.float.FloatFailure.TheVariants.{NotAFloat, Memory as NoMemory}
use Rattle.kdl_text.specs.declared.span.Severity.{Severity}
use Rattle.kdl_text.specs.declared.span.Severity.TheVariants.{Advice, Warning, Error}

pub span_decides : (s t : SourceSpan) → Decides (span_impl.ghosts.eq s t) (s ≡ t)
span_decides s t =
    Decides-like _ (λ (offset, len). λ i. record { offset = offset i; len = len i }) (λ e. (ap (λ x. x.offset) e, ap (λ x. x.len) e))
    (Decides-and _ _ (Decides-eqb s.offset t.offset) (Decides-eqb s.len t.len))

pub severity_decides : (s t : Severity) → Decides (severity_impl.ghosts.eq s t) (s ≡ t)
severity_decides Advice Advice = (λ e. refl, λ e. refl)
severity_decides Warning Warning = (λ e. refl, λ e. refl)
severity_decides Error Error = (λ e. refl, λ e. refl)
severity_decides _ _ = (λ e. cc, λ e. cc)

pub float_failure_decides : (f g : FloatFailure) → Decides (float_failure_impl.ghosts.eq f g) (f ≡ g)
float_failure_decides NotAFloat NotAFloat = (λ e. refl, λ e. refl)
float_failure_decides NoMemory NoMemory = (λ e. refl, λ e. refl)
float_failure_decides _ _ = (λ e. cc, λ e. cc)

-- texts that may be missing
note_decides : (o p : Option (String Global)) → Decides (option_eq string_eq o p) (option_map string_bytes o ≡ option_map string_bytes p)
note_decides o p = option_decides string_eq string_bytes (λ s t. bytes_eq-Decides (string_bytes s) (string_bytes t)) o p

pub diagnostic_decides : (d e : KdlDiagnostic) → Decides (diagnostic_impl.ghosts.eq d e) (diagnostic_tree d ≡ diagnostic_tree e)
diagnostic_decides d e =
    let input = bytes_eq-Decides (rc_str_bytes d.input) (rc_str_bytes e.input) in
    let last = Decides-and _ _ (note_decides d.help e.help) (severity_decides d.severity e.severity) in
    let notes = Decides-and _ _ (note_decides d.message e.message) (Decides-and _ _ (note_decides d.label e.label) last) in
    Decides-like _ (λ (text, (span, (message, (label, (help, severity))))). cc)
    (λ h. (
      ap (λ x. x.input) h,
      (ap (λ x. x.span) h, (ap (λ x. x.message) h, (ap (λ x. x.label) h, (ap (λ x. x.help) h, ap (λ x. x.severity) h)))),
    ))
    (Decides-and _ _ input (Decides-and _ _ (span_decides d.span e.span) notes))

diagnostics_decide : (xs ys : List KdlDiagnostic) → Decides (pointwise diagnostic_impl.ghosts.eq xs ys) (map diagnostic_tree xs ≡ map diagnostic_tree ys)
diagnostics_decide [] [] = (λ e. refl, λ e. refl)
diagnostics_decide [] (y ∷ ys) = (λ e. cc, λ e. cc)
diagnostics_decide (x ∷ xs) [] = (λ e. cc, λ e. cc)
diagnostics_decide (x ∷ xs) (y ∷ ys) = Decides-like _ (λ (one, more). cc) (λ e. (cc, cc)) (Decides-and _ _ (diagnostic_decides x y) (diagnostics_decide xs ys))

pub error_decides : (e f : KdlError) → Decides (error_impl.ghosts.eq e f) (error_tree e ≡ error_tree f)
error_decides e f =
    let input = bytes_eq-Decides (rc_str_bytes e.input) (rc_str_bytes f.input) in
    Decides-like _ (λ (text, told). cc) (λ h. (ap (λ x. x.input) h, ap (λ x. x.diagnostics) h))
    (Decides-and _ _ input (diagnostics_decide e.diagnostics.items f.diagnostics.items))

pub failure_decides : (f g : ParseFailure) → Decides (failure_impl.ghosts.eq f g) (failure_tree f ≡ failure_tree g)
failure_decides (Syntax e) (Syntax f) = Decides-like _ (λ h. cc) (λ h. cc) (error_decides e f)
failure_decides Memory Memory = (λ e. refl, λ e. refl)
failure_decides _ _ = (λ e. cc, λ e. cc)
