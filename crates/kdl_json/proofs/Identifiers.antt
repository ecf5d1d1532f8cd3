-- Identifiers and values that are read from a string.
use Rattle.std.proofs.Common.{◌≡◌, ℕ, List, ◌∷◌, Result, ap, sym, ◌∙◌}
use Rattle.std.specs.Prelude.{Ok, Err, IfOk, MatchResult}
use Rattle.std.specs.Str.{encode_utf8_all}
use Rattle.std.proofs.lemmas.Str.{encodes_same}
use Rattle.json.specs.Token.{Token, string}
use Rattle.kdl_text.specs.Chars.{Text}
use Rattle.kdl_entry.specs.Tree.{identifier_tree}
use Rattle.kdl_entry.specs.declared.identifier.KdlIdentifier.{KdlIdentifier}
use Rattle.kdl_json.specs.Reading.{Gives}
use Rattle.kdl_json.specs.declared.failure.JsonFailure.{JsonFailure}
use Rattle.kdl_json.specs.declared.failure.JsonFailure.TheVariants.{Memory}

-- the identifier is that of the string
abbrev pub IsOf : Result KdlIdentifier JsonFailure → List ℕ → Type 0
IsOf r u = MatchResult r (λ i. encode_utf8_all (identifier_tree i).value ≡ u) (λ e. e ≡ Memory)

pub sounds_as : (r : Result KdlIdentifier JsonFailure) (u : List ℕ) (old new : List Token) → old ≡ string u ∷ new → IsOf r u → IfOk r (λ i. old ≡ string (encode_utf8_all (identifier_tree i).value) ∷ new)
sounds_as (Ok i) u old new t h = t ∙ ap (λ (v : List ℕ). string v ∷ new) (sym h)
sounds_as (Err e) u old new t h = tt

pub reads_as : (r : Result KdlIdentifier JsonFailure) (u : List ℕ) (s : Text) (old new rest : List Token) → old ≡ string u ∷ new → old ≡ string (encode_utf8_all s) ∷ rest → IsOf r u → Gives (λ i. (identifier_tree i).value) r new s rest
reads_as (Ok i) u s old new rest t e h =
    let same : u ≡ encode_utf8_all s = cc in
    (encodes_same (identifier_tree i).value s (h ∙ same), cc)
reads_as (Err x) u s old new rest t e h = h
