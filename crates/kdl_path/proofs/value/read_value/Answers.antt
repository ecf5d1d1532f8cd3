use Rattle.std.proofs.Common.{rules, ◌≡◌, Bool, true, false, sym, subst}
use Rattle.std.specs.Str.{chars}
use Rattle.kdl.specs.Words.{EntryData, IsEntryText, Value, entry_tree, value_tree}
use Rattle.c_calls.proofs.ValueSteps.{laid_in_value, value_is_entry, value_laid}
use Rattle.c_calls.specs.Entries.{IsValueText}
use Rattle.c_calls.specs.Internal.Values.{is_value}
use Rattle.kdl_text.specs.Chars.{Text}
use Rattle.kdl_path.specs.Internal.Failing.{NoValueIf}
use Rattle.kdl_path.specs.declared.failure.EditFailure.{EditFailure}
use Rattle.kdl_path.specs.declared.failure.EditFailure.TheVariants as edit
use Rattle.kdl_path.proofs.Failing.{err_is}
use Rattle.kdl_path.proofs.value.read_value.Goals as goal

different : (b : Bool) → b ≡ true → b ≡ false → ⊥
different true h k = absurd (cc)
different false h k = absurd (cc)

no_values : (t : Text) (e : EditFailure) → NoValueIf ((x : EntryData) → IsEntryText t x → ⊥) e → NoValueIf ((v : Value) → IsValueText t v → ⊥) e
no_values t edit.Value h = λ v d. h _ (value_is_entry t v d)
no_values t edit.Memory h = h
no_values t (edit.Text x) h = h
no_values t (edit.Node x) h = h
no_values t edit.NotNode h = h
no_values t (edit.Missing m) h = h

pub returns-in_err-entry-clause-refused : goal.returns-in_err-entry-clause-refused
returns-in_err-entry-clause-refused c = err_is c.from_residual.result _ _ c.from_residual.ensures.1 (no_values (chars c.args.text.now) _ c.in_err-entry.ensures.refused)

pub returns-then-not-is_value-clause-refused : goal.returns-then-not-is_value-clause-refused
returns-then-not-is_value-clause-refused c = λ v d.
    let e = entry_tree c.in_ok-entry.entry in
    let no : is_value e ≡ false = search rules in
    different (is_value e) (laid_in_value (chars c.args.text.now) v e c.in_ok-entry.ensures.laid d) no

pub returns-clause-reads : goal.returns-clause-reads
returns-clause-reads c =
    let t = chars c.args.text.now in
    let e = entry_tree c.in_ok-entry.entry in
    let yes : is_value e ≡ true = search rules in
    let same : value_tree c.in_ok-clone.field-0 ≡ e.value = search rules in
    subst (IsValueText t) (sym same) (value_laid t e c.in_ok-entry.ensures.laid yes).0
