use Rattle.kdl_layout.proofs.Common.{◌≡◌, ◌∙◌, false, sym, true, chars, identifier_tree}
use Rattle.kdl_layout.proofs.Respelling.Entries.{name_kept, name_removed, no_name_kept}
use Rattle.kdl_layout.proofs.names.name_spelling.Goals as goal

pub returns-in_default : goal.returns-in_default
returns-in_default c = rw c.if-not-layout.false (no_name_kept (identifier_tree c.args.identifier.now) c.in_default.ensures)

pub returns-then-branch : goal.returns-then-branch
returns-then-branch c =
    let h = rw c.value.ensures at c.in_ok-spells_text.ensures in
    rw c.if-not-layout.false (name_kept (identifier_tree c.args.identifier.now) (chars c.in-Some.repr.now) c.in-Some.ensures (h.0 c.if-branch.true))

pub returns : goal.returns
returns c =
    let h = rw c.value.ensures at c.in_ok-spells_text.ensures in
    rw c.if-not-layout.false
    (name_removed (identifier_tree c.args.identifier.now) (chars c.in-Some.repr.now) c.in-Some.ensures (λ d. let z : false ≡ true = sym c.if-branch.false ∙ h.1 d in absurd cc))
