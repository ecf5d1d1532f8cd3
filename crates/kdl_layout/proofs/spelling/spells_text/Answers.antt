use Rattle.kdl_layout.proofs.Common.{◌≡◌, false, true, chars, text, whole_view}
use Rattle.kdl_layout.proofs.Respelling.Spellings.{decides_text, spelling_text}
use Rattle.kdl_layout.proofs.spelling.spells_text.Goals as goal

pub returns-in-Some : goal.returns-in-Some
returns-in-Some c =
    let d = rw c.in-Some.is at c.in_ok-whole.ensures in
    decides_text (chars c.args.text.now) (chars c.args.value.now) (whole_view c.in-Some.whole) c.is_text.result d c.is_text.ensures

pub returns-in-None : goal.returns-in-None
returns-in-None c =
    let d = rw c.in-None.is at c.in_ok-whole.ensures in
    (λ e. let z : false ≡ true = e in absurd cc, λ i. absurd (d (text (chars c.args.value.now)) (spelling_text _ _ i)))
