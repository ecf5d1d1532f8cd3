-- The loop over spaces and newlines.
use Rattle.std.proofs.Common.{◌≡◌, ℕ, true, false, [], ◌∷◌, ◌++◌, refl, sym, ap, ◌∙◌, append_assoc}
use Rattle.std.proofs.lemmas.List.Folds.{list_all-append}
use Rattle.std.specs.List.{list_all}
use Rattle.std.specs.Prelude.{Some, None}
use Rattle.kdl_text.specs.Chars.{Text, starts}
use Rattle.kdl_text.specs.Internal.Here.{Here, looked, stepped, first}
use Rattle.kdl_text.specs.Internal.Reading.{Past, Consumed}
use Rattle.kdl_text.specs.Strings.{is_escaped_space, Run}
use Rattle.kdl_text.proofs.Looking.MovesJoin.{took_from}
use Rattle.kdl_text.proofs.Looking.SliceCost.{past_then, past_took, past_look}

pub record Blank (f a : Here) : Type 0 where
  pub run : Text
  pub text : f.rest ≡ run ++ a.rest
  pub all : list_all is_escaped_space run ≡ true
  pub past : Past 1 0 f a

pub blank_turn : (c : ℕ) (f a b e : Here) → Blank f a → Some c ≡ first a.rest → b ≡ looked a → is_escaped_space c ≡ true → e ≡ stepped b → Blank f e
blank_turn c f a b e i h l k s =
    let t = took_from c a b e h l s in
    record {
      run = i.run ++ c ∷ [];
      text = i.text ∙ ap (λ z. i.run ++ z) t.0 ∙ sym (append_assoc i.run (c ∷ []) e.rest);
      all = rw (list_all-append is_escaped_space i.run (c ∷ []), i.all, k) refl;
      past = past_then i.past (past_took t);
    }

pub blank_ends : (f a b : Here) → Blank f a → b ≡ looked a → starts is_escaped_space a.rest ≡ false → Consumed 1 1 (Run is_escaped_space) f b
blank_ends f a b i l h = let rest = ap (λ z. z.rest) l in record { reads = record { run = i.run; text = rw rest i.text; all = i.all; stops = rw rest h }; past = past_then i.past (past_look l) }

pub no_blank : (c : ℕ) (s : Text) → Some c ≡ first s → is_escaped_space c ≡ false → starts is_escaped_space s ≡ false
no_blank c [] h n = cc
no_blank c (d ∷ s) h n = let e : c ≡ d = cc in rw (← e) n

pub blank_over : (s : Text) → None ≡ first s → starts is_escaped_space s ≡ false
blank_over [] h = refl
blank_over (d ∷ s) h = cc
