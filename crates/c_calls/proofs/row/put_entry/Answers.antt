use Rattle.std.proofs.Common.{arith, rules, ◌≤◌, length}
use Rattle.kdl.specs.Words.{entry_data, entry_tree}
use Rattle.c_calls.proofs.SaysSteps.{key_kept, type_kept}
use Rattle.c_calls.proofs.row.put_entry.Goals as goal

pub returns-clause-within : goal.returns-clause-within
returns-clause-within c = λ h.
    let key = c.put_key-name.ensures in
    let ty = c.put_type-ty.ensures in
    let value = c.in_ok-value.ensures in
    let a : c.put_key-name.new.used ≤ length c.args.strings.now = omega (arith, h, ty.more, value.more) in
    let b : c.put_type-ty.new.used ≤ length c.put_key-name.new.strings = omega (arith, h, value.more, c.put_key-name.auto.strings) in
    let d : c.put_value.new.used ≤ length c.put_type-ty.new.strings = omega (arith, h, c.put_key-name.auto.strings, c.put_type-ty.auto.strings) in
    (omega (arith, key.within a, ty.more, value.more), omega (arith, ty.within b, value.more), value.within d)

pub returns-clause-says : goal.returns-clause-says
returns-clause-says c = λ h.
    let e = entry_data (entry_tree c.args.entry.now) in
    let key = c.put_key-name in
    let ty = c.put_type-ty in
    let value = c.in_ok-value.ensures in
    let a : key.new.used ≤ length c.args.strings.now = omega (arith, h, ty.ensures.more, value.more) in
    let b : ty.new.used ≤ length key.new.strings = omega (arith, h, value.more, key.auto.strings) in
    let d : c.put_value.new.used ≤ length ty.new.strings = omega (arith, h, key.auto.strings, ty.auto.strings) in
    let f = ty.ensures.grown b in
    let g = value.grown d in
    record {
      key = key_kept _ _ _ _ _ _ e.key g.1 (key_kept _ _ _ _ _ _ e.key f.1 (key.ensures.says a));
      ty = type_kept _ _ _ _ _ _ e.ty g.1 (ty.ensures.says b);
      value = search (rules, value.says d);
    }
