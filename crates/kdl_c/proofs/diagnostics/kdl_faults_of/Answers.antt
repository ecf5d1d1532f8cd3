use Rattle.std.proofs.Common.{rules, ◌≡◌, ◌∷◌, [], All, List, ℕ, ap, inl, inr, map, refl, sym}
use mathlib.Core.Path.{subst}
use Rattle.kdl.specs.Words.{IsToldOf, Tells}
use Rattle.c_calls.specs.Listed.{AreFaultsOf, fault_of}
use Rattle.c_calls.specs.Reading.{AreFaultsAs, Outcome, not_value}
use Rattle.c_calls.specs.Rows.{AreTold}
use Rattle.kdl_c.proofs.QuerySteps.{as_other}
use Rattle.kdl_c.proofs.diagnostics.kdl_faults_of.Goals as goal

pub returns-in-Refused-clause-told : goal.returns-in-Refused-clause-told
returns-in-Refused-clause-told c = λ _.
    let t = c.in-Ok.text.now in
    let same : t ≡ c.args.text.now = search rules in
    let told = subst (Outcome c.args.kind t) c.in-Refused.is c.in-Some.ensures.some in
    let tells : Tells t c.in-Refused.error = told.0 in
    let all : All (IsToldOf t) c.deref.result.now = subst (All (IsToldOf t)) (sym c.deref.ensures.value) tells.each in
    c.put_faults.ensures.told c.args.text.now (subst (λ s. All (IsToldOf s) c.deref.result.now) same all)

pub returns-in-NotValue-clause-told : goal.returns-in-NotValue-clause-told
returns-in-NotValue-clause-told c = λ _.
    let n = c.put_not_value.new in
    let same : c.in-Ok.text.now ≡ c.args.text.now = search rules in
    subst (λ (s : List ℕ). AreTold s n.out n.count n.strings n.used) same c.put_not_value.ensures.told

pub returns-in-Refused-clause-listed : goal.returns-in-Refused-clause-listed
returns-in-Refused-clause-listed c = λ _.
    let t = c.in-Ok.text.now in
    let e = c.in-Refused.error in
    let same : t ≡ c.args.text.now = search rules in
    let told = subst (Outcome c.args.kind t) c.in-Refused.is c.in-Some.ensures.some in
    let of : AreFaultsOf t (map fault_of c.deref.result.now) = (e, told.0, ap (map fault_of) c.deref.ensures.value) in (
      map fault_of c.deref.result.now,
      as_other c.args.kind c.args.text.now (map fault_of c.deref.result.now) (search rules)
          (subst (λ s. AreFaultsAs c.args.kind s (map fault_of c.deref.result.now)) same (inl (of, told.2))),
      c.put_faults.ensures.listed,
    )

pub returns-in-NotValue-clause-listed : goal.returns-in-NotValue-clause-listed
returns-in-NotValue-clause-listed c = λ _.
    let t = c.in-Ok.text.now in
    let same : t ≡ c.args.text.now = search rules in
    let told = subst (Outcome c.args.kind t) c.in-NotValue.is c.in-Some.ensures.some in (
      not_value t ∷ [],
      as_other c.args.kind c.args.text.now (not_value t ∷ []) (search rules)
          (subst (λ s. AreFaultsAs c.args.kind s (not_value t ∷ [])) same (inr (told.0, told.1, refl))),
      c.put_not_value.ensures.listed,
    )
