use Rattle.kdl_layout.proofs.Common.{rules, ◌++◌, sym, ap, chars, Text}
use Rattle.kdl_layout.proofs.Texts.{empty_string}
use Rattle.kdl_layout.proofs.layout.prepare.Goals as goal

pub returns-then-is_empty-clause-ready : goal.returns-then-is_empty-clause-ready
returns-then-is_empty-clause-ready c =
    let empty = rw c.if-is_empty.true at (empty_string c.is_empty.result c.args.kept c.is_empty.ensures) in
    (search rules, sym (ap (λ (t : Text). t ++ chars c.args.more.now) empty))
