use Rattle.std.proofs.Common.{rules, ◌≡◌, Some}
use Rattle.kdl.specs.Words.{node_format_of}
use Rattle.kdl_path.proofs.Ends.{end_laid, format_kept, unchanged}
use Rattle.kdl_path.proofs.laid.end_with.Goals as goal

pub returns-in_default : goal.returns-in_default
returns-in_default c = λ h. unchanged c.args.node.now

pub returns-then-not-is_bare : goal.returns-then-not-is_bare
returns-then-not-is_bare c = λ h.
    let own : node_format_of c.args.node.now ≡ Some c.in-Some.format.now = search rules in
    format_kept c.args.node.now c.in-Some.format.now own

pub returns : goal.returns
returns c = λ h.
    let own : node_format_of c.args.node.now ≡ Some c.in-Some.format.now = search rules in
    end_laid c.args.node.now c.in-Some.format.now c.args.ends own h
