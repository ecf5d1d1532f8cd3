use Rattle.std.proofs.Common.{rules, ◌≡◌, All, ap, map, sym}
use mathlib.Core.Path.{subst}
use Rattle.kdl.specs.Words.{IsToldOf, Tells}
use Rattle.kdl_text.specs.Failures.{TellsOf}
use Rattle.c_calls.specs.Listed.{fault_of}
use Rattle.kdl_c.proofs.diagnostics.kdl_faults.Goals as goal

pub returns-in-Err-Syntax-clause-told : goal.returns-in-Err-Syntax-clause-told
returns-in-Err-Syntax-clause-told c = λ _.
    let t = c.in-Ok.text.now in
    let same : t ≡ c.args.text.now = search rules in
    let tells : Tells t c.in-Err-Syntax.error = subst (TellsOf t) c.in-Err-Syntax.field-0-is c.in-Err-Syntax.ensures.told in
    let all : All (IsToldOf t) c.deref.result.now = subst (All (IsToldOf t)) (sym c.deref.ensures.value) tells.each in
    c.put_faults.ensures.told c.args.text.now (subst (λ s. All (IsToldOf s) c.deref.result.now) same all)

pub returns-in-Err-Syntax-clause-listed : goal.returns-in-Err-Syntax-clause-listed
returns-in-Err-Syntax-clause-listed c = λ _.
    let t = c.in-Ok.text.now in
    let same : t ≡ c.args.text.now = search rules in
    let tells : Tells t c.in-Err-Syntax.error = subst (TellsOf t) c.in-Err-Syntax.field-0-is c.in-Err-Syntax.ensures.told in (
      map fault_of c.deref.result.now,
      (c.in-Err-Syntax.error, subst (λ s. Tells s c.in-Err-Syntax.error) same tells, ap (map fault_of) c.deref.ensures.value),
      c.put_faults.ensures.listed,
    )
