use Rattle.std.proofs.Common.{◌<◌, ◌↔◌, IsSome, ◌∷◌, ◌++◌, [], take, drop, suc, sym, ap, ◌∙◌, subst, arith, string_bytes}
use Rattle.std.proofs.lemmas.List.{take-append-drop, take_all, take_more}
use Rattle.std.proofs.lemmas.Str.{IsUtf8-string_bytes, chars-nil}
use Rattle.std.proofs.Math.Seq.{drop-cons}
use Rattle.std.specs.Str.{chars}
use Rattle.kdl_text.specs.Internal.Lines.{AreLines}
use Rattle.kdl_text.specs.Raw.{literals}
use Rattle.kdl_text.proofs.ManyLines.DedentReads.{Written, written_none, written_more, value_of, memory_if, unended}
use Rattle.kdl_text.proofs.Quoted.EscapeReads.{char_pushed}
use Rattle.kdl_text.proofs.strings.dedent.push_lines.Goals as goal

pub loop-line-init : goal.loop-line-init
loop-line-init c = written_none _ _ (ap chars c.requires ∙ chars-nil)

pub loop-line-preserved : goal.loop-line-preserved
loop-line-preserved c =
    let ls = c.args.lines.now in
    let i = c.loop-line.line-index in
    let next = take_more ls i c.line-item.result c.loop-line-test.true ∙ ap (λ z. take i ls ++ (z ∷ [])) (sym c.line-item.is) in
    let fed = char_pushed _ _ 10 (IsUtf8-string_bytes c.push_line.new.out) (IsUtf8-string_bytes c.push.new.self) c.in_ok-push.ensures.bytes in
    subst (λ z. Written (literals (chars c.args.prefix.now)) z (chars (string_bytes c.push.new.self))) (sym next) (written_more _ (take i ls) c.line-item.result _ _ _ c.loop-line.invariant c.in-Ok.ensures.done fed)

pub returns-in-Err-clause-only : goal.returns-in-Err-clause-only
returns-in-Err-clause-only c uss vs are values =
    let ls = c.args.lines.now in
    let i = c.loop-line.line-index in
    let whole = sym (take-append-drop i ls) ∙ ap (λ z. take i ls ++ z) (drop-cons ls i c.line-item.result c.loop-line-test.true ∙ ap (λ z. z ∷ drop (suc i) ls) (sym c.line-item.is)) in
    let (us, v, line, value) = value_of _ (take i ls) (drop (suc i) ls) c.line-item.result uss vs (subst (λ z. AreLines z uss) whole are) values in
    memory_if c.in-Err.e (λ other. c.in-Err.ensures.failed other us v line value)

pub returns-clause-found : goal.returns-clause-found
returns-clause-found c uss are =
    let (vs, values, is) = c.loop-line.invariant uss (subst (λ z. AreLines z uss) (sym (take_all c.loop-line.line-index c.args.lines.now (omega arith))) are) in
    (vs, values, unended c.pop.result vs _ _ (IsUtf8-string_bytes c.loop-line.out) (IsUtf8-string_bytes c.pop.new.self) is (subst (λ z. IsSome c.pop.result ↔ (0 < z)) c.loop-line.out.bytes.ok.0 c.pop.ensures.variant) c.pop.ensures.bytes (omega (arith, c.pop.ensures.bound, c.loop-line.out.bytes.ok.0, c.pop.new.self.bytes.ok.0)))
