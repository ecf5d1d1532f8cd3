use Rattle.std.proofs.Common.{rules, ◌≡◌, ◌∙◌, false, true, None, Some, Option, IsSome, ap, refl, sym}
use Rattle.std.proofs.lemmas.Option.{none-some}
use Rattle.kdl_value.specs.Data.{Value}
use Rattle.kdl_path.specs.Internal.Located.{makes_there, place_of_target}
use Rattle.kdl_path.proofs.Failing.{none_is_some, second_false, second_true}
use Rattle.kdl_path.proofs.Places.{value_is_there, value_missing}
use Rattle.kdl_path.proofs.setter.entry_change.Goals as goal

not_there : (o : Option Value) → None ≡ o → IsSome o → ⊥
not_there None e s = absurd (cc)
not_there (Some x) e s = absurd (none-some x e)

pub returns-in-Some-clause-found : goal.returns-in-Some-clause-found
returns-in-Some-clause-found c = λ u. value_is_there c.args.target.now c.args.node.now c.in-Some.at (c.in-Some.ensures ∙ ap (place_of_target c.args.target.now) c.entries-entries.ensures.value)

pub returns-in-Some-clause-made : goal.returns-in-Some-clause-made
returns-in-Some-clause-made c = λ none ok.
    absurd (none_is_some _ none (value_is_there c.args.target.now c.args.node.now c.in-Some.at (c.in-Some.ensures ∙ ap (place_of_target c.args.target.now) c.entries-entries.ensures.value)))

pub returns-then-not-may_make_entry-clause-missing : goal.returns-then-not-may_make_entry-clause-missing
returns-then-not-may_make_entry-clause-missing c =
    let t = c.args.target.now in
    let es = c.entries-entries.ensures.value in
    let no : c.may_make_entry.result ≡ false = search rules in
    (sym (value_missing t c.args.node.now (c.in_default.ensures ∙ ap (place_of_target t) es)), λ h. ap (makes_there t) (sym es) ∙ second_false _ _ _ c.may_make_entry.ensures no h)

pub returns-clause-set : goal.returns-clause-set
returns-clause-set c = λ s.
    absurd (not_there _ (value_missing c.args.target.now c.args.node.now (c.in_default.ensures ∙ ap (place_of_target c.args.target.now) c.entries-entries.ensures.value)) s)

pub returns-clause-made : goal.returns-clause-made
returns-clause-made c = λ none ok.
    let yes : c.may_make_entry.result ≡ true = search rules in
    record { next = ap (makes_there c.args.target.now) (sym c.entries-entries.ensures.value) ∙ second_true _ _ _ c.may_make_entry.ensures yes; entry = c.in_ok-new_entry.field-0; change = refl; new = c.in_ok-new_entry.ensures ok }
