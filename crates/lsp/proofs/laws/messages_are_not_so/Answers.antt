use Rattle.std.proofs.Common.{arith, IfSome, IsSomeAnd, ◌≡◌, ℕ, [], ◌∷◌, Some, codes, refl, subst}
use Rattle.lsp.specs.Messages.{AsksIn, IsIgnored, TellsIn, method_of, params_of}
use Rattle.lsp_documents.specs.Notes.{uri_of}
use Rattle.lsp.proofs.Texts.{braces_are_object, empty_is_none, empty_tells_nothing, exit_is_object, naming_is_object}
use Rattle.lsp.proofs.laws.messages_are_not_so.Goals as goal

pub returns-clause-empty : goal.returns-clause-empty
returns-clause-empty c = empty_tells_nothing

pub returns-clause-object : goal.returns-clause-object
returns-clause-object c note tells = subst (λ o. IsSomeAnd o (λ j. TellsIn j note)) braces_are_object tells

pub returns-clause-unnamed : goal.returns-clause-unnamed
returns-clause-unnamed c uri names = subst (λ o. IsSomeAnd o (λ j. uri_of (params_of j) ≡ Some uri)) empty_is_none names

pub returns-clause-names : goal.returns-clause-names
returns-clause-names c uri names = let h = subst (λ o. IsSomeAnd o (λ j. uri_of (params_of j) ≡ Some uri)) braces_are_object names in absurd (cc (h))

pub returns-clause-exit : goal.returns-clause-exit
returns-clause-exit c quiet = let h : IsIgnored (codes "exit") = subst (λ o. IsSomeAnd o (λ j. IfSome (method_of j) IsIgnored)) exit_is_object quiet in h.0 refl

pub returns-clause-other : goal.returns-clause-other
returns-clause-other c names =
    let a : ℕ = 97 in
    let b : ℕ = 98 in
    let uris : Some (a ∷ []) ≡ Some (b ∷ []) = subst (λ o. IsSomeAnd o (λ j. uri_of (params_of j) ≡ Some (codes "b"))) naming_is_object names in
    let same : a ≡ b = cc (uris) in
    omega (arith, same)

pub returns-clause-asks : goal.returns-clause-asks
returns-clause-asks c id asks = let h = subst (λ o. IsSomeAnd o (λ j. AsksIn j id)) exit_is_object asks in absurd (cc (h.0))

pub returns-clause-quiet : goal.returns-clause-quiet
returns-clause-quiet c quiet = subst (λ o. IsSomeAnd o (λ j. IfSome (method_of j) IsIgnored)) empty_is_none quiet
