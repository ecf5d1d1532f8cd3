use Rattle.std.proofs.Common.{rules, refl}
use mathlib.Core.Path.{subst}
use Rattle.std.specs.Str.{chars}
use Rattle.kdl.specs.Words.{IsEntryText, EntryData, Tells, entry_data, entry_tree}
use Rattle.kdl_text.specs.Failures.{TellsOf}
use Rattle.c_calls.proofs.ValueSteps.{laid_in_value, value_is_entry, value_laid}
use Rattle.c_calls.proofs.given_faults.read_value.Goals as goal

pub returns-in-Err-Syntax : goal.returns-in-Err-Syntax
returns-in-Err-Syntax c =
    let t = c.args.text.now in
    let tells : Tells t c.in-Err-Syntax.error = subst (TellsOf t) c.in-Err-Syntax.field-0-is c.in-Err-Syntax.ensures.told in
    let refused : (x : EntryData) → IsEntryText (chars t) x → ⊥ = search rules in
    (tells, λ w. refused _ (value_is_entry (chars t) w.0 w.1), λ _ w. refused w.0 w.1)

pub returns-then-is_value : goal.returns-then-is_value
returns-then-is_value c =
    let e = entry_tree c.in-Ok.entry in
    (e.value, (value_laid (chars c.args.text.now) e c.in-Ok.ensures.laid (search rules)).0)

pub returns : goal.returns
returns c =
    let e = entry_tree c.in-Ok.entry in
    (refl, (entry_data e, c.in-Ok.ensures.found), λ w. let h = laid_in_value (chars c.args.text.now) w.0 e c.in-Ok.ensures.laid w.1 in absurd (cc))
