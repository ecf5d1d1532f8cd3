use Rattle.std.proofs.Common.{rules, ◌≡◌, ◌∙◌, ◌++◌, ◌∷◌, [], ℕ, List, Some, ap}
use Rattle.std.specs.Str.{chars}
use Rattle.kdl.specs.Words.{node_format_of}
use Rattle.kdl_path.proofs.Ends.{line_laid, unchanged}
use Rattle.kdl_path.proofs.laid.begin_line.Goals as goal

pub returns-then-begins_line : goal.returns-then-begins_line
returns-then-begins_line c = unchanged c.args.node.now

pub returns-in_default : goal.returns-in_default
returns-in_default c = unchanged c.args.node.now

pub returns : goal.returns
returns c =
    let own : node_format_of c.args.node.now ≡ Some c.in-Some.format.now = search rules in
    line_laid c.args.node.now c.in-Some.format.now c.in_ok-format.field-0 own (c.in_ok-format.ensures ∙ ap (λ (b : List ℕ). chars (10 ∷ []) ++ chars b) c.deref.ensures)
