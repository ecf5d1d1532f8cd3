use Rattle.std.proofs.Common.{sym, ap, ◌∙◌, subst}
use Rattle.std.proofs.lemmas.List.{nil_from_length}
use Rattle.std.proofs.lemmas.Bool.{false≢true}
use Rattle.kdl_text.specs.Dedent.{LineValues, joined, lines_of}
use Rattle.kdl_text.specs.Internal.Lines.{AreLines}
use Rattle.kdl_text.proofs.ManyLines.DedentReads.{dedent_failed, some_lines, lines_last, dedents_to, dedents_from, values_same}
use Rattle.kdl_text.proofs.ManyLines.LineUnits.{spelled, blank_units}
use Rattle.kdl_text.proofs.strings.dedent.dedent.Goals as goal

pub returns-in_default : goal.returns-in_default
returns-in_default c us are = absurd (some_lines us c.args.lines.now are (nil_from_length c.args.lines.now c.in_default.ensures.cases))

pub returns-in_err-out : goal.returns-in_err-out
returns-in_err-out c us are = dedent_failed c.from_residual.result us c.from_residual.ensures.1

pub returns-then-not-is_blank : goal.returns-then-not-is_blank
returns-then-not-is_blank c us are =
    let (ks, last, same, front, is) = lines_last _ _ (lines_of us) (subst (λ z. AreLines z (lines_of us)) c.in-Some.ensures.cases.0 are) in
    record { found = tt; only = λ v d. absurd (false≢true (sym c.if-not-is_blank.true ∙ c.is_blank.ensures last is ∙ (dedents_from us ks last v same d).0)) }

pub returns-in-Ok : goal.returns-in-Ok
returns-in-Ok c us are =
    let (ks, last, same, front, is) = lines_last _ _ (lines_of us) (subst (λ z. AreLines z (lines_of us)) c.in-Some.ensures.cases.0 are) in
    let blank = sym (c.is_blank.ensures last is) ∙ c.if-not-is_blank.false in
    let units = blank_units _ _ last c.as_str-prefix.utf8 (spelled _ last c.as_str-prefix.ensures.value is) blank in
    let (vs, values, text) = c.in-Ok.ensures.found ks front in
    let there = rw (← units) at values in
    record {
      found = rw text (dedents_to us ks last vs same blank there);
      only = λ v d. let (b, ws, l, e) = dedents_from us ks last v same d in e ∙ ap joined (values_same last ks ws vs l there) ∙ sym text;
    }

pub returns-in-Err : goal.returns-in-Err
returns-in-Err c us are =
    let (ks, last, same, front, is) = lines_last _ _ (lines_of us) (subst (λ z. AreLines z (lines_of us)) c.in-Some.ensures.cases.0 are) in
    let blank = sym (c.is_blank.ensures last is) ∙ c.if-not-is_blank.false in
    let units = blank_units _ _ last c.as_str-prefix.utf8 (spelled _ last c.as_str-prefix.ensures.value is) blank in
    record { found = tt; only = λ v d. let (b, ws, l, e) = dedents_from us ks last v same d in c.in-Err.ensures.only ks ws front (subst (λ z. LineValues z ks ws) units l) }
