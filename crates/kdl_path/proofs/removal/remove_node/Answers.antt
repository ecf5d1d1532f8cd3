use Rattle.std.proofs.Common.{◌≡◌, ◌++◌, ◌∷◌, ◌∙◌, [], ℕ, List, None, ap, subst}
use Rattle.kdl.specs.Words.{nodes_of}
use Rattle.kdl_path.specs.Internal.Located.{Leads}
use Rattle.kdl_path.proofs.Removed.{above_removed, emptied, first_removed, no_leads, no_length, nonempty}
use Rattle.kdl_path.proofs.removal.remove_node.Goals as goal

pub returns-in_default-clause-removed : goal.returns-in_default-clause-removed
returns-in_default-clause-removed c = λ ss n leads r.
    let none : c.args.indices.now ≡ [] = no_length c.args.indices.now c.in_default.ensures.cases in
    absurd (no_leads ss (nodes_of c.args.document) n (subst (λ (l : List ℕ). Leads ss l (nodes_of c.args.document) None n) none leads))

pub returns-then-is_empty-clause-removed : goal.returns-then-is_empty-clause-removed
returns-then-is_empty-clause-removed c = λ ss n leads r.
    let last = c.in-Some.last.now in
    let none : c.in-Some.above.now ≡ [] = emptied c.is_empty.result c.in-Some.above.now c.is_empty.ensures c.if-is_empty.true in
    let one : c.args.indices.now ≡ last ∷ [] = c.in-Some.ensures.cases.0 ∙ ap (λ (l : List ℕ). l ++ last ∷ []) none in
    first_removed ss last c.args.document c.remove_top.result n (subst (λ (l : List ℕ). Leads ss l (nodes_of c.args.document) None n) one leads) c.remove_top.ensures.says (c.remove_top.ensures.reads r)

pub returns-clause-removed : goal.returns-clause-removed
returns-clause-removed c = λ ss n leads r.
    let above = c.in-Some.above.now in
    let last = c.in-Some.last.now in
    above_removed ss above last c.args.document c.in_ok-change_at.field-0 n (nonempty c.is_empty.result above c.is_empty.ensures c.if-is_empty.false)
    (subst (λ (l : List ℕ). Leads ss l (nodes_of c.args.document) None n) c.in-Some.ensures.cases.0 leads) c.in_ok-change_at.ensures r
