use Rattle.std.proofs.Common.{◌≡◌, ◌∙◌, sym, true}
use Rattle.std.proofs.lemmas.Slice.Eq.{bytes_eq-Decides}
use Rattle.cli.proofs.FormatSteps.{delivers_other, delivers_same}
use Rattle.cli.proofs.files.deliver.Goals as goal

pub returns-then-eq : goal.returns-then-eq
returns-then-eq g c =
    let same = (bytes_eq-Decides c.args.old.now c.args.new.now).0 (sym c.eq.ensures ∙ c.if-eq.true) in
    delivers_same _ _ _ _ _ _ _ same c.keep.ensures

pub returns-else-eq : goal.returns-else-eq
returns-else-eq g c =
    delivers_other _ _ _ _ _ _ _ (λ e. let yes : c.eq.result ≡ true = c.eq.ensures ∙ (bytes_eq-Decides c.args.old.now c.args.new.now).1 e in cc) c.change.ensures
