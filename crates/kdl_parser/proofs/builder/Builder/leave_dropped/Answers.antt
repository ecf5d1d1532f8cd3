use Rattle.std.proofs.Common.{◌≡◌, sym, subst}
use Rattle.kdl_syntax.specs.Internal.Handed.{kind_view}
use Rattle.kdl_parser.specs.Internal.Building.{node_now, under_view}
use Rattle.kdl_parser.specs.Internal.Turns.{Leaves}
use Rattle.kdl_parser.proofs.Stepping.Dropped.{leaves}
use Rattle.kdl_parser.proofs.builder.Builder.leave_dropped.Goals as goal

pub returns : goal.returns
returns g c =
    let tree = g.N.ParsedNode.tree in
    let there = c.in_ok-settle_word.ensures in
    let over = c.in-Some.ensures in
    (over.0, subst (λ z. Leaves tree c.args.self.now (record z { phase = c.in-Some.phase })) (sym there.rest) (leaves tree c.args.self.now c.settle_word.new.self.under.entries (subst (λ z. under_view z.under ≡ node_now c.args.self.now) there.rest there.under) (kind_view c.args.kind.now) c.in-Some.phase over.0 over.1))
