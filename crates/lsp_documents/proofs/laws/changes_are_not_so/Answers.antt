use Rattle.std.proofs.Common.{arith, rules, ◌≡◌, ℕ, List, [], ◌∷◌, chars}
use Rattle.std.proofs.lemmas.Str.{chars-IsAscii}
use Rattle.lsp_documents.proofs.laws.changes_are_not_so.Goals as goal

pub returns-clause-order : goal.returns-clause-order
returns-clause-order c h =
    let text : List ℕ = 97 ∷ [] in
    let is : chars text ≡ text = chars-IsAscii text (search rules) in
    let a : ℕ = 97 in
    let b : ℕ = 98 in
    let same : a ≡ b = cc (h.0.1, is) in
    omega (arith, same)
