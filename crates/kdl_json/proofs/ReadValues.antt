-- Values that are read.
use Rattle.std.proofs.Common.{◌≡◌, ℕ, List, ◌∷◌, Result, sym, ◌∙◌}
use Rattle.std.specs.Prelude.{Ok, Err, IfOk, MatchResult}
use Rattle.json.specs.Token.{Token, begin_object, number, string}
use Rattle.kdl_value.specs.Data.{Value}
use Rattle.kdl_value.specs.Tree.{value_tree}
use Rattle.kdl_value.specs.WellFormed.{IsWellFormed}
use Rattle.kdl_value.specs.declared.value.KdlValue.{KdlValue}
use Rattle.kdl_json.specs.Form.{value_tokens}
use Rattle.kdl_json.specs.Reading.{Gives}
use Rattle.kdl_json.specs.Values.{IsNumberOf, IsTextOf}
use Rattle.kdl_json.specs.declared.failure.JsonFailure.{JsonFailure}
use Rattle.kdl_json.specs.declared.failure.JsonFailure.TheVariants.{Memory}
use Rattle.kdl_json.proofs.Values.{text_read, text_tokens, value_numbered}

-- the tokens taken are those of the value
abbrev pub Takes : Result KdlValue JsonFailure → List Token → List Token → Type 0
Takes r old new = IfOk r (λ v. old ≡ value_tokens (value_tree v) new)

-- the value is that
abbrev pub IsThat : Result KdlValue JsonFailure → Value → Type 0
IsThat r x = MatchResult r (λ v. value_tree v ≡ x) (λ e. e ≡ Memory)

abbrev pub IsText : Result KdlValue JsonFailure → List ℕ → Type 0
IsText r s = MatchResult r (λ v. IsTextOf s (value_tree v)) (λ e. e ≡ Memory)

pub takes_text : (r : Result KdlValue JsonFailure) (s : List ℕ) (old new : List Token) → old ≡ string s ∷ new → IsText r s → Takes r old new
takes_text (Ok v) s old new t h = t ∙ text_tokens s (value_tree v) new h
takes_text (Err e) s old new t h = tt

pub gives_text : (r : Result KdlValue JsonFailure) (s : List ℕ) (old new : List Token) (x : Value) (rest : List Token) → old ≡ string s ∷ new → IsText r s → old ≡ value_tokens x rest → Gives value_tree r new x rest
gives_text (Ok v) s old new x rest t h e = let k = text_read s (value_tree v) x new rest h (sym t ∙ e) in (k.is, k.rest)
gives_text (Err f) s old new x rest t h e = h

pub takes_number : (r : Result KdlValue JsonFailure) (s : List ℕ) (old new : List Token) → old ≡ number s ∷ new → IfOk r (λ v. IsNumberOf s (value_tree v)) → Takes r old new
takes_number (Ok v) s old new t h = t ∙ h new
takes_number (Err e) s old new t h = tt

gives_that : (r : Result KdlValue JsonFailure) (new : List Token) (x : Value) (rest : List Token) → IsThat r x → new ≡ rest → Gives value_tree r new x rest
gives_that (Ok v) new x rest h t = (h, t)
gives_that (Err e) new x rest h t = h

pub gives_number : (r : Result KdlValue JsonFailure) (s : List ℕ) (old new : List Token) (x : Value) (rest : List Token) → old ≡ number s ∷ new → ((y : Value) → IsWellFormed y → IsNumberOf s y → IsThat r y) → IsWellFormed x → old ≡ value_tokens x rest → Gives value_tree r new x rest
gives_number r s old new x rest t h w e = let k = value_numbered x s new rest (sym t ∙ e) in gives_that r new x rest (h x w k.of) k.rest

pub takes_object : (r : Result KdlValue JsonFailure) (old mid new : List Token) → old ≡ begin_object ∷ mid → Takes r (begin_object ∷ mid) new → Takes r old new
takes_object (Ok v) old mid new t h = t ∙ h
takes_object (Err e) old mid new t h = tt
