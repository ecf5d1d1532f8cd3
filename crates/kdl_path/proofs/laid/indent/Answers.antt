use Rattle.std.proofs.Common.{rules, ◌≡◌, ℕ, List, Some, subst}
use Rattle.std.specs.Str.{chars}
use Rattle.kdl_value.specs.Tree.{text_of}
use Rattle.kdl_path.specs.Internal.Laid.{IsIndented}
use Rattle.kdl.specs.Words.{node_format_of}
use Rattle.kdl_path.proofs.Ends.{indent_laid, unchanged}
use Rattle.kdl_path.proofs.laid.indent.Goals as goal

pub returns-in_default : goal.returns-in_default
returns-in_default c = unchanged c.args.node.now

pub returns : goal.returns
returns c =
    let own : node_format_of c.args.node.now ≡ Some c.in-Some.format.now = search rules in
    indent_laid c.args.node.now c.in-Some.format.now c.in_ok-format.field-0 own (subst (λ (b : List ℕ). IsIndented (chars b) (text_of c.in_ok-format.field-0)) c.deref.ensures c.in_ok-format.ensures)
