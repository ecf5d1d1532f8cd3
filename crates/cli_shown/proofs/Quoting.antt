-- Strings without quotes.
use Rattle.std.proofs.Common.{Global, String, string_bytes, ◌≡◌, ◌∙◌, ap, sym, List, ℕ, IfOk, Ok, Err, Result, true}
use Rattle.std.proofs.lemmas.Str.{IsUtf8-string_bytes, encodes-chars}
use Rattle.std.specs.Str.{encode_utf8_all}
use Rattle.std.specs.declared.alloc.AllocError.{AllocError}
use Rattle.kdl.specs.Words as words
use Rattle.kdl.specs.Words.{Value, text_of}
use Rattle.cli_shown.specs.Values.{shown_value}

-- a string is shown as it is
pub as_it_is : (t : String Global) (x : Value) (bs : List ℕ) (r : Result (String Global) AllocError) → x ≡ words.text (text_of t) → bs ≡ string_bytes t → IfOk r (λ s. string_bytes s ≡ bs) → IfOk r (λ s. string_bytes s ≡ encode_utf8_all (shown_value true x))
as_it_is t x bs (Ok s) e b h = h ∙ b ∙ sym (encodes-chars (string_bytes t) (IsUtf8-string_bytes t)) ∙ ap (λ v. encode_utf8_all (shown_value true v)) (sym e)
as_it_is t x bs (Err f) e b h = tt
