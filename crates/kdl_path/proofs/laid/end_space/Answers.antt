use Rattle.std.proofs.Common.{rules, ◌≡◌, Some}
use Rattle.kdl.specs.Words.{node_format_of}
use Rattle.kdl_path.proofs.Ends.{format_kept, space_laid, unchanged}
use Rattle.kdl_path.proofs.laid.end_space.Goals as goal

pub returns-in_default : goal.returns-in_default
returns-in_default c = unchanged c.args.node.now

pub returns-then-not-is_bare : goal.returns-then-not-is_bare
returns-then-not-is_bare c =
    let own : node_format_of c.args.node.now ≡ Some c.in-Some.format.now = search rules in
    format_kept c.args.node.now c.in-Some.format.now own

pub returns : goal.returns
returns c =
    let own : node_format_of c.args.node.now ≡ Some c.in-Some.format.now = search rules in
    space_laid c.args.node.now c.in-Some.format.now c.in_ok-space.space own c.in_ok-space.ensures
