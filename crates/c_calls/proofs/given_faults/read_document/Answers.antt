use Rattle.std.proofs.Common.{rules, arith}
use mathlib.Core.Path.{subst}
use Rattle.std.specs.Str.{chars}
use Rattle.kdl.specs.Words.{IsDocument, Nodes, Tells}
use Rattle.kdl_text.specs.Failures.{TellsOf}
use Rattle.c_calls.proofs.given_faults.read_document.Goals as goal

pub returns-in-Err-Syntax : goal.returns-in-Err-Syntax
returns-in-Err-Syntax c =
    let t = c.args.text.now in
    let tells : Tells t c.in-Err-Syntax.error = subst (TellsOf t) c.in-Err-Syntax.field-0-is c.in-Err-Syntax.ensures.told in
    let refused : (x : Nodes) → IsDocument (chars t) x → ⊥ = search rules in
    (tells, λ w. refused w.0 w.1, λ k. absurd (omega (arith, k)))

pub returns-in-Ok : goal.returns-in-Ok
returns-in-Ok c = c.in-Ok.ensures.found
