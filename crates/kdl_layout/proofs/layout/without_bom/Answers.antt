use Rattle.kdl_layout.proofs.Common.{◌++◌, ap, ◌∙◌, sym, List, ℕ, encode_utf8}
use Rattle.kdl_layout.proofs.Texts.{bom_cut, no_bom}
use Rattle.kdl_layout.proofs.layout.without_bom.Goals as goal

pub returns-in-Some : goal.returns-in-Some
returns-in-Some c =
    let h = c.in-Some.ensures.cases in
    bom_cut c.args.text.now c.in-Some.rest.now c.utf8.text (h.1.split ∙ ap (λ (x : List ℕ). encode_utf8 0xFEFF ++ x) (sym h.2))

pub returns-in-None : goal.returns-in-None
returns-in-None c = no_bom c.args.text.now c.utf8.text c.in-None.ensures.cases
