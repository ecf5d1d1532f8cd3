use Rattle.kdl.proofs.Common.{◌≡◌, Result, Ok, Err, OnErr, refl}
use Rattle.std.proofs.Common.{IsErr, IsOk}
use Rattle.std.proofs.lemmas.Result.{IfOk-from_err}
use Rattle.std.specs.Borrow.{name_if_ok}
use Rattle.kdl.proofs.Finding.NodeLookups.{entries_refused, written, value_found}
use Rattle.kdl.proofs.Finding.EntriesFound.{written_or_pushed}
use Rattle.kdl.proofs.node.KdlNode.get_or_null_mut.Goals as goal
use base.Fml.{GName}
use mathlib.Core.Option.{none}

nothing_lent : {A E : Type 0} (f : A → GName) (r : Result A E) → IsErr r → none ≡ name_if_ok f r
nothing_lent f (Ok a) h = absurd (cc)
nothing_lent f (Err e) h = refl

not_both : {A E P : Type 0} (r : Result A E) → IsErr r → IsOk r → P
not_both (Ok a) h k = absurd (cc)
not_both (Err e) h k = absurd (cc)

on_err : {A E P : Type 0} (r : Result A E) → P → OnErr r P
on_err (Ok a) p = tt
on_err (Err e) p = p

pub returns : goal.returns
returns c =
    ((refl, (λ w ok. written _ _ _ _ _ w c.in_ok-at.ensures.found), tt), (value_found _ _ _ _ _ _ c.in_ok-at.ensures.found c.value_at_mut.ensures.value, (λ there. refl, (tt, written_or_pushed c.args.name.now c.args.self.now c.utf8.name))))

pub returns-in_err-at : goal.returns-in_err-at
returns-in_err-at c =
    let failed = c.from_residual.ensures.0 in (
      (nothing_lent _ c.from_residual.result failed, λ w ok. not_both c.from_residual.result failed ok, on_err c.from_residual.result (entries_refused c.args.self.now c.property_or_null.new.entries c.in_err-at.ensures.refused)),
      (IfOk-from_err c.from_residual.result _ failed, (λ there. let ok = c.in_err-at.ensures.answers there in absurd (cc), (on_err c.from_residual.result c.in_err-at.ensures.missing, written_or_pushed c.args.name.now c.args.self.now c.utf8.name))),
    )
