use Rattle.std.proofs.Common.{◌∙◌, Global, List, Vec, [], ◌∷◌, ◌++◌, ap, map, subst, sym, take}
use Rattle.std.proofs.lemmas.List.{take_all, take_more}
use Rattle.std.specs.Result.{result_err}
use Rattle.cli.specs.Config.{AreMisfits, given_by}
use Rattle.cli.specs.Config.AreMisfits.{none}
use Rattle.kdl.specs.Words.{node_says, node_tree}
use Rattle.kdl.specs.declared.node.KdlNode.{KdlNode}
use Rattle.cli.specs.declared.config.Misfit.{Misfit}
use Rattle.cli.proofs.ConfigSteps.{given_more, name_at, one_misfit, one_setting}
use Rattle.cli.proofs.config.given_by.Goals as goal
use Rattle.cli.proofs.config.given_by.Goals.{in-Err+in_ok-push, in_default}

pub loop-node-init : goal.loop-node-init
loop-node-init c = record { given = c.none-given.ensures; misfits = subst (AreMisfits []) (sym c.requires) none }

pub loop-node-preserved : goal.loop-node-preserved
loop-node-preserved c =
    let more = take_more c.args.nodes.now c.loop-node.node-index c.node-item.result c.loop-node-test.true ∙ ap (λ (x : KdlNode). take c.loop-node.node-index c.args.nodes.now ++ (x ∷ [])) (sym c.node-item.is) in
    record {
      given = given_more _ _ c.node-item.result c.loop-node.given c.give.new.given c.loop-node.invariant.given more c.give.ensures.given;
      misfits = elim c.match-give.branch [
        | in-Err+in_ok-push w ↦ one_misfit _ _ c.node-item.result c.loop-node.given (record { why = w.in-Err.why; span = w.span-span.result }) c.loop-node.misfits.items c.match-give.misfits.items c.loop-node.invariant.misfits c.loop-node.invariant.given more (sym c.give.ensures.why ∙ ap result_err w.in-Err.is) (w.span-span.ensures ∙ name_at c.node-item.result w.name.result.now w.name.ensures.value) (ap (λ (v : Vec Misfit Global). v.items) w.misfits-is ∙ w.in_ok-push.ensures.items)
        | in_default w ↦ one_setting _ _ c.node-item.result c.loop-node.given c.loop-node.misfits.items c.match-give.misfits.items c.loop-node.invariant.misfits c.loop-node.invariant.given more (sym c.give.ensures.why ∙ ap result_err w.in_default.is) (ap (λ (v : Vec Misfit Global). v.items) w.misfits-is)
      ];
    }

pub returns-clause-given : goal.returns-clause-given
returns-clause-given c = c.loop-node.invariant.given ∙ ap (λ (l : List KdlNode). given_by (map node_says l)) (take_all c.loop-node.node-index c.args.nodes.now c.loop-node-test.false)

pub returns-clause-misfits : goal.returns-clause-misfits
returns-clause-misfits c = subst (λ (l : List KdlNode). AreMisfits (map node_tree l) c.loop-node.misfits.items) (take_all c.loop-node.node-index c.args.nodes.now c.loop-node-test.false) c.loop-node.invariant.misfits
