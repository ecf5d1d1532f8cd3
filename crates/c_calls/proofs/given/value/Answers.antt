use Rattle.std.proofs.Common.{rules, ◌≡◌, false}
use Rattle.std.specs.Str.{chars}
use Rattle.kdl.specs.Words.{EntryData, IsEntryText, Value, entry_tree}
use Rattle.c_calls.proofs.ValueSteps.{laid_in_value, value_is_entry}
use Rattle.c_calls.specs.Entries.{IsValueText}
use Rattle.c_calls.specs.Internal.Values.{is_value}
use Rattle.c_calls.specs.declared.status.Unread.TheVariants.{Faults}
use Rattle.c_calls.proofs.EditSteps.{if_err, if_ok, spelled_value}
use Rattle.c_calls.specs.Internal.Given.{IsPlain, IsSpelled}
use Rattle.c_calls.proofs.given.value.Goals as goal

pub returns-clause-spelled : goal.returns-clause-spelled
returns-clause-spelled c =
    let e = entry_tree c.in_ok-entry.entry in
    let t = chars c.args.text.now in
    if_ok c.plain-value.result (λ v. IsPlain e v.0 v.1) (λ v. IsSpelled t v.0 v.1) (λ v h. spelled_value t e v.0 v.1 c.in_ok-entry.ensures.laid h) c.plain-value.ensures.plain

pub returns-clause-refused : goal.returns-clause-refused
returns-clause-refused c =
    let e = entry_tree c.in_ok-entry.entry in
    let t = chars c.args.text.now in
    if_err c.plain-value.result (λ r. r ≡ Faults → is_value e ≡ false) (λ r. r ≡ Faults → (v : Value) → IsValueText t v → ⊥)
    (λ r h f v d. let k = laid_in_value t v e c.in_ok-entry.ensures.laid d in let l = h f in absurd (cc)) c.plain-value.ensures.refused

pub returns-in_err-entry-clause-refused : goal.returns-in_err-entry-clause-refused
returns-in_err-entry-clause-refused c =
    let t = chars c.args.text.now in
    if_err c.from_residual.result (λ r. r ≡ Faults → (x : EntryData) → IsEntryText t x → ⊥) (λ r. r ≡ Faults → (v : Value) → IsValueText t v → ⊥)
    (λ r h f v d. h f _ (value_is_entry t v d)) (search rules)
