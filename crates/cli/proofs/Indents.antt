-- Indents are spaces, each of one byte.
use Rattle.std.proofs.Common.{◌≡◌, ◌∙◌, ℕ, zero, suc, List, [], ◌∷◌, true, ap, refl, sym, Global, String, string_bytes, IfOk, Ok, Err, Result}
use Rattle.std.specs.List.{list_all, repeat}
use Rattle.std.specs.Str.{chars, encode_utf8_all}
use Rattle.kdl.specs.Words as kdl'
use Rattle.kdl.specs.Words.{Text, defaults, text_of}
use Rattle.kdl_text.specs.Chars.{is_space}
use Rattle.cli.specs.Formatted.{indent_text, layout_settings}
use Rattle.cli.specs.declared.settings.Indent.{Indent}
use Rattle.cli.specs.declared.settings.Indent.TheVariants.{Spaces, Tab}
use Rattle.cli.specs.declared.settings.Settings.{Settings}

-- spaces are the bytes that encode them
pub repeat-encoded : (n : ℕ) → repeat n (32 ∷ []) ≡ encode_utf8_all (repeat n (32 ∷ []))
unfolding lib.Utf8.encode
repeat-encoded zero = refl
repeat-encoded (suc n) = ap (λ (t : List ℕ). 32 ∷ t) (repeat-encoded n)

-- so is a tab
pub tab-encoded : 9 ∷ [] ≡ encode_utf8_all (9 ∷ [])
unfolding lib.Utf8.encode
tab-encoded = refl

are_spaces : (n : ℕ) → list_all is_space (repeat n (32 ∷ [])) ≡ true
unfolding is_space
are_spaces zero = refl
are_spaces (suc n) = are_spaces n

-- an indent is spaces of KDL
pub indents_by_spaces : (i : Indent) → list_all is_space (indent_text i) ≡ true
unfolding is_space
indents_by_spaces (Spaces n) = are_spaces n
indents_by_spaces Tab = refl

-- a text in memory with the bytes of an indent is that indent
pub text_is : {E : Type 0} (r : Result (String Global) E) (t u : Text) → ((s : String Global) (x : Text) → string_bytes s ≡ encode_utf8_all x → text_of s ≡ x) → t ≡ encode_utf8_all t → u ≡ t
    → IfOk r (λ s. string_bytes s ≡ t) → IfOk r (λ s. text_of s ≡ u)
text_is (Ok s) t u law encoded is bytes = law s t (bytes ∙ encoded) ∙ sym is
text_is (Err e) t u law encoded is bytes = bytes

-- a configuration that is built from the defaults with the text of an indent
pub config_is : (s : Settings) (so_far set built : kdl'.Settings) (bytes : List ℕ) (t : String Global) → so_far ≡ defaults → set ≡ record so_far { indent = chars bytes } → built ≡ set → bytes ≡ string_bytes t → text_of t ≡ indent_text s.indent
    → built ≡ layout_settings s
config_is s so_far set built bytes t begins sets builds reads is =
    builds ∙ (sets ∙ (ap (λ (x : kdl'.Settings). record x { indent = chars bytes }) begins ∙ ap (λ (x : Text). record defaults { indent = x }) (ap chars reads ∙ is)))
