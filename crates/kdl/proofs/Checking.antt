-- A document is accepted by the control of its text exactly if it is derived.
use Rattle.std.proofs.Common.{◌≡◌, ℕ, false, true, List, [], Option, Some, None, option_map, Result, Ok, Err, refl, ap}
use Rattle.std.specs.Prelude.{IfOk}
use Rattle.std.specs.Str.{chars}
use Rattle.kdl_text.specs.Chars.{Text}
use Rattle.kdl_text.specs.Failures.{IsSyntax, TellsOnSyntax}
use Rattle.kdl_text.specs.declared.error.ParseFailure.{ParseFailure}
use Rattle.kdl_syntax.specs.Tokens.{Token, Lexes, done, next}
use Rattle.kdl_syntax.specs.Control.{Control, at, step, accepts, held}
use Rattle.kdl_syntax.specs.declared.control.Phase.TheVariants.{Gap}
use Rattle.kdl_diagnostics.specs.TextControl.{in_document, Takes, ends, takes, AcceptsDocument}
use Rattle.kdl_grammar.specs.Data.{Nodes}
use Rattle.kdl_grammar.specs.Grammar.{IsDocument, IsDocumentIn}
use Rattle.kdl_grammar.proofs.Moving.FormerIsPresent.{wider}
use Rattle.kdl_grammar.proofs.Reading.Erased.{accepted_nodes}
use Rattle.kdl_parser.proofs.Answering.Accepted.{accepted_document}
use Rattle.kdl.specs.Parses.{ChecksDocument}

-- the first token may come, and the others after it
stepped : (o : Option Control) (ks : List Token) → held (λ c'. accepts c' ks) o ≡ true → (d : Control) × (o ≡ Some d) × (accepts d ks ≡ true)
stepped None ks e = absurd cc
stepped (Some d) ks e = (d, refl, e)

-- tokens that may come in this order are taken
taken : {t : Text} {ks : List Token} → Lexes t ks → (c : Control) → accepts c ks ≡ true → Takes (in_document c) t
taken done c e = ends e
taken (next {k = k} {ks = ks} b l) c e =
    let (d, s, a) = stepped (step c k) ks e in
    takes b (ap (λ o. option_map in_document o) s) (taken l d a)

pub derived_document : {t : Text} {x : Nodes} → IsDocument t x → AcceptsDocument t
derived_document (IsDocumentIn.no_bom n) = let (ks, l, a) = accepted_nodes n in AcceptsDocument.no_bom (taken l (at Gap []) a)
derived_document (IsDocumentIn.after_bom n) = let (ks, l, a) = accepted_nodes n in AcceptsDocument.after_bom (taken l (at Gap []) a)

pub document_checked : (text : List ℕ) (r : Result (Unit {0}) ParseFailure) → IfOk r (λ _. AcceptsDocument (chars text)) → (IsSyntax r → AcceptsDocument (chars text) → ⊥) → TellsOnSyntax text r → ChecksDocument text r
document_checked text (Ok u) a n told = record { found = accepted_document a; refused = λ s. absurd s; told = told; kept = λ x i s. absurd s }
document_checked text (Err f) a n told = record { found = tt; refused = λ s x i. n s (derived_document i); told = told; kept = λ x i s. n s (derived_document (wider false i)) }
