use Rattle.std.proofs.Common.{rules, ◌≡◌, length, None, Some, refl, ap, ◌∙◌, sym, slice_get}
use Rattle.std.proofs.lemmas.Option.{slice_get_past, slice_get_read}
use Rattle.kdl_path.specs.Internal.Located.{place_of_target}
use Rattle.kdl_path.proofs.Places.{entry_found, entry_missing}
use Rattle.kdl_path.proofs.lookup.entry_of.Goals as goal

pub returns-in_default : goal.returns-in_default
returns-in_default c = entry_missing c.args.target.now c.args.node.now (c.in_default.ensures ∙ ap (place_of_target c.args.target.now) c.entries-entries.ensures.value)

pub returns-in-Some-get : goal.returns-in-Some-get
returns-in-Some-get c =
    let es = c.entries-entries.result.now in
    let at = c.in-Some.at in
    let e = c.in-Some-get.entry.now in
    let there : slice_get es at ≡ Some e = slice_get_read es (length es) at e refl (search rules) (search rules) in
    entry_found c.args.target.now c.args.node.now at (Some e) (c.in-Some.ensures ∙ ap (place_of_target c.args.target.now) c.entries-entries.ensures.value) (ap (λ l. slice_get l at) (sym c.entries-entries.ensures.value) ∙ there)

pub returns-in-None : goal.returns-in-None
returns-in-None c =
    let es = c.entries-entries.result.now in
    let at = c.in-Some.at in
    let past : slice_get es at ≡ None = slice_get_past es at (search rules) in
    entry_found c.args.target.now c.args.node.now at None (c.in-Some.ensures ∙ ap (place_of_target c.args.target.now) c.entries-entries.ensures.value) (ap (λ l. slice_get l at) (sym c.entries-entries.ensures.value) ∙ past)
