use Rattle.kdl.proofs.Common.{rules, Option, None, Some, subst, sym, ◌≡◌, BlockIsSpaced, KdlDocument, at_start}
use Rattle.kdl.proofs.LayingOut.OneLine.{document_block, no_block_laid}
use Rattle.kdl.proofs.node.layout.block_around.Goals as goal

pub returns-in_ok-around-in-Some : goal.returns-in_ok-around-in-Some
returns-in_ok-around-in-Some c e =
    let l = c.args.layout.now in
    let k = c.in_ok-around-in-Some in
    let w = k.ensures.formatted e in
    let is : c.args.children.now ≡ Some c.in-Some.children = search rules in
    subst (λ (o : Option KdlDocument). BlockIsSpaced l c.args.level o k.first (Some k.around)) (sym is) (document_block l c.args.level c.in-Some.children k.first w.0 k.around w.1 w.2 k.ensures.fits)

pub returns-in-None : goal.returns-in-None
returns-in-None c e =
    let l = c.args.layout.now in
    let is : c.args.children.now ≡ None = search rules in
    subst (λ (o : Option KdlDocument). BlockIsSpaced l c.args.level o at_start None) (sym is) (no_block_laid l c.args.level at_start None)
