use Rattle.std.proofs.Common.{rules, ◌≡◌, ◌∙◌, ap, option_map, sym, IfOk, Result, Ok, Err, Some, codes}
use Rattle.std.specs.Global.{Global, Vec}
use Rattle.json.specs.declared.value.Value.{Value, fold-roll-Value}
use Rattle.json.specs.declared.value.Value.TheOpen.{Value-F}
use Rattle.json.specs.declared.value.Value.TheVariants.{Array, rolls-Array}
use Rattle.json.specs.Find.{get}
use Rattle.json.specs.Json.{Json, array}
use Rattle.json.specs.Value.{items_view, value_view, view_step}
use Rattle.lsp_documents.proofs.Values.{changes_of_items}
use Rattle.lsp_documents.proofs.params.changes.Goals as goal

-- an array as JSON
array_is_array : (vs : Vec (Value Global)) → value_view {A = Global} (Array vs) ≡ array (items_view vs.items)
array_is_array vs = ap (value_view {A = Global}) (sym (rolls-Array vs)) ∙ fold-roll-Value Global Json view_step (Value-F.Array vs)

-- what follows from what a result holds
then : {A E : Type 0} (r : Result A E) (P Q : A → Type 0) → ((x : A) → P x → Q x) → IfOk r P → IfOk r Q
then (Ok x) P Q f p = f x p
then (Err e) P Q f p = tt

pub returns-clause-each : goal.returns-clause-each
returns-clause-each c =
    let params = value_view c.args.params.now in
    let held : c.deref.result.now ≡ c.in-Some-Array.values.items = search rules in
    let view : value_view c.in-Some-Array.field-0.now ≡ array (items_view c.in-Some-Array.values.items) =
    ap (value_view {A = Global}) c.in-Some-Array.field-0-is ∙ array_is_array c.in-Some-Array.values in
    let got : get (codes "contentChanges") params ≡ Some (array (items_view c.deref.result.now)) =
    sym c.get.ensures ∙ ap (option_map (λ v. value_view v.now)) c.in-Some-Array.is ∙ ap Some (view ∙ ap (λ vs. array (items_view vs)) (sym held)) in
    then c.changes_of.result _ _ (λ found each changes has. each changes (changes_of_items params (items_view c.deref.result.now) changes got has)) c.changes_of.ensures.each
