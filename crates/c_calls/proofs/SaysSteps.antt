-- Texts in the strings that were written, once more are written.
use Rattle.std.proofs.Common.{arith, ◌≡◌, ◌+◌, ◌++◌, ◌≤◌, ℕ, List, [], Option, None, Some, append-nil, ap, ◌∙◌, sym, drop, length, length-append, length-drop, take}
use Rattle.std.specs.Str.{chars}
use Rattle.std.proofs.lemmas.List.{take-append-le, drop-append-le}
use mathlib.Core.Path.{subst}
use Rattle.kdl.specs.Words.{Text}
use Rattle.c_calls.specs.Says.{Grown, IsBytes, IsText, SaysKey, SaysType}

bytes_later : (s more bs : List ℕ) (start len : ℕ) → start + len ≤ length s → take len (drop start (s ++ more)) ≡ take len (drop start s)
bytes_later s more bs start len k =
    ap (take len) (drop-append-le start s more (omega (arith, k))) ∙ take-append-le len (drop start s) more (omega (arith, k, length-drop start s))

pub text_kept : (s s' more : List ℕ) (start len : ℕ) (t : Text) → s' ≡ s ++ more → IsText s start len t → IsText s' start len t
text_kept s s' more start len t e w = subst (λ (z : List ℕ). IsText z start len t) (sym e) (record {
  within = omega (arith, length-append s more, w.within);
  reads = ap chars (bytes_later s more [] start len w.within) ∙ w.reads;
})

pub key_kept : (s s' more : List ℕ) (k start len : ℕ) (o : Option Text) → s' ≡ s ++ more → SaysKey s k start len o → SaysKey s' k start len o
key_kept s s' more k start len None e h = h
key_kept s s' more k start len (Some t) e h = (h.0, text_kept s s' more start len t e h.1)

pub type_kept : (s s' more : List ℕ) (k start len : ℕ) (o : Option Text) → s' ≡ s ++ more → SaysType s k start len o → SaysType s' k start len o
type_kept s s' more k start len None e h = h
type_kept s s' more k start len (Some t) e h = (h.0, text_kept s s' more start len t e h.1)

pub bytes_kept : (s s' more bs : List ℕ) (start len : ℕ) → s' ≡ s ++ more → IsBytes s start len bs → IsBytes s' start len bs
bytes_kept s s' more bs start len e w = subst (λ (z : List ℕ). IsBytes z start len bs) (sym e) (record {
  within = omega (arith, length-append s more, w.within);
  reads = bytes_later s more [] start len w.within ∙ w.reads;
})

-- nothing more was written, and more twice
pub grown_none : (s : List ℕ) (u : ℕ) → Grown s u s u
grown_none s u = λ _. ([], sym (append-nil (take u s)))
