use Rattle.std.proofs.Common.{rules, ◌≡◌, List, ℕ, length, map, sym, take, take_all, arith, ◌+◌}
use mathlib.Core.Path.{subst}
use Rattle.kdl.specs.Words.{IsToldOf}
use Rattle.c_calls.specs.Listed.{AreListed, Fault, fault_of}
use Rattle.kdl_text.specs.declared.error.KdlDiagnostic.{KdlDiagnostic}
use Rattle.c_calls.specs.Rows.{AreTold}
use Rattle.c_calls.proofs.ListedSteps.{listed_more, listed_none, next_faults}
use Rattle.c_calls.proofs.RowSteps.{none_told}
use Rattle.c_calls.proofs.faults.put_faults.Goals as goal

pub loop-at-init : goal.loop-at-init
loop-at-init c = record {
  told = λ text _. none_told text c.args.out.now c.args.strings.now 0;
  listed = listed_none c.args.out.now c.args.strings.now (search rules);
}

pub loop-at-preserved : goal.loop-at-preserved
loop-at-preserved c =
    let d = c.index-found-at.result in
    let l = c.loop-at in
    let n = c.put_fault.new in
    record {
      told = λ text all. c.put_fault.ensures.told text (subst (IsToldOf text) (sym c.index-found-at.is) (all l.at d c.loop-at-test.true)) (l.invariant.told text all);
      listed = subst (λ (fs : List Fault). AreListed fs c.args.out.now n.out (l.at + 1) c.args.strings.now n.strings n.used)
          (sym (next_faults c.args.found.now l.at d c.loop-at-test.true c.index-found-at.is))
          (listed_more (map fault_of (take l.at c.args.found.now)) (fault_of d) c.args.out.now l.out n.out l.at c.args.strings.now l.strings n.strings l.used n.used (search rules)
          l.invariant.listed c.put_fault.ensures.row c.put_fault.ensures.put);
    }

pub returns-clause-told : goal.returns-clause-told
returns-clause-told c = λ text all.
    let at : c.loop-at.at ≡ length c.args.found.now = search rules in
    subst (λ n. AreTold text c.loop-at.out n c.loop-at.strings c.loop-at.used) at (c.loop-at.invariant.told text all)

pub returns-clause-listed : goal.returns-clause-listed
returns-clause-listed c =
    let l = c.loop-at in
    let found = c.args.found.now in
    let at : l.at ≡ length found = search rules in
    let all : take l.at found ≡ found = take_all l.at found (omega (arith, at)) in
    subst (λ (ds : List KdlDiagnostic). AreListed (map fault_of ds) c.args.out.now l.out (length found) c.args.strings.now l.strings l.used) all
    (subst (λ (n : ℕ). AreListed (map fault_of (take l.at found)) c.args.out.now l.out n c.args.strings.now l.strings l.used) at l.invariant.listed)
