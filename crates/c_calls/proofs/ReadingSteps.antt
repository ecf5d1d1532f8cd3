-- Whole texts.
use Rattle.std.proofs.Common.{ℕ, List, [], append-nil, sym, refl, length}
use Rattle.std.specs.Str.{IsUtf8, chars}
use Rattle.kdl.specs.Words.{InText}
use Rattle.kdl_text.proofs.Looking.Texts.{bytes-chars}

pub whole_text : (s : List ℕ) → IsUtf8 s → InText (chars s) (record { offset = 0; len = length s })
whole_text s u = ([], chars s, [], sym (append-nil (chars s)), refl, sym (bytes-chars s u))
