-- One turn of the loop to the end of a line.
use Rattle.std.proofs.Common.{◌≡◌, ℕ, Bool, [], ◌∷◌, ◌++◌, true, false, not, refl, ap, sym, ◌∙◌, arith, append_assoc}
use Rattle.std.proofs.lemmas.Bool.{and_parts, not-true}
use Rattle.std.proofs.lemmas.List.Folds.{list_all-append}
use Rattle.std.specs.Prelude.{Some, None}
use Rattle.std.specs.List.{list_all}
use Rattle.kdl_text.specs.Chars.{Text, is_newline_char}
use Rattle.kdl_text.specs.Internal.Here.{Here, Took, Ate, Passed}
use Rattle.kdl_text.specs.Internal.Reading.{Reads, Past, Consumed}
use Rattle.kdl_text.specs.Trivia.{Line}
use Rattle.kdl_text.specs.Trivia.Line.{ends as line_ends, newline as line_newline, other as line_other}
use Rattle.kdl_text.proofs.Looking.MovesJoin.{stayed_looked}
use Rattle.kdl_text.proofs.Looking.SliceCost.{past_start, past_then, past_two, past_more, past_took, past_look, past_ate, past_passed}
use Rattle.kdl_text.proofs.Spacing.NewlineUnique.{end_one, ate_cr}
use Rattle.kdl_text.proofs.Spacing.SpaceReads.{reads_found}
use Rattle.kdl_text.proofs.Spacing.SpaceUnique.{line_det}

abbrev plain : ℕ → Bool
plain c = not (is_newline_char c)

-- where the loop is
pub record InLine (f a : Here) : Type 0 where
  pub run : Text
  pub text : f.rest ≡ run ++ a.rest
  pub all : list_all plain run ≡ true
  pub past : Past 2 0 f a

pub line_starts : (f : Here) → InLine f f
line_starts f = record { run = []; text = refl; all = refl; past = past_start }

-- the rest of a line
line_run : (run rest r : Text) → list_all (λ c. not (is_newline_char c)) run ≡ true → Line rest r → Line (run ++ rest) r
line_run [] rest r h l = l
line_run (c ∷ run) rest r h l = let k = and_parts (not (is_newline_char c)) _ h in line_other (not-true (is_newline_char c) k.0) (line_run run rest r k.1 l)

line_found : (f a e : Here) → InLine f a → Line a.rest e.rest → Past 2 2 a e → Consumed 2 2 (Reads Line true) f e
line_found f a e i l p =
    let found : Line f.rest e.rest = rw i.text (line_run i.run a.rest e.rest i.all l) in
    record { reads = reads_found Line _ _ found (λ t p. line_det p found); past = past_then i.past p }

-- a run of characters that are no newline, and what stops it
module _ (f a m : Here) (i : InLine f a) (r : Passed plain a m) where
  past_run : InLine f m
  past_run = record {
    run = i.run ++ r.run;
    text = i.text ∙ ap (λ z. i.run ++ z) r.text ∙ sym (append_assoc i.run r.run m.rest);
    all = rw (list_all-append plain i.run r.run, i.all, r.all) refl;
    past = past_then i.past (past_two (past_passed r));
  }

  pub line_turn : (c : ℕ) (b : Here) → is_newline_char c ≡ false → Took (Some c) m b → InLine f b
  line_turn c b x t =
      let p = past_run in record {
        run = p.run ++ c ∷ [];
        text = p.text ∙ ap (λ z. p.run ++ z) t.0 ∙ sym (append_assoc p.run (c ∷ []) b.rest);
        all = rw (list_all-append plain p.run (c ∷ []), p.all, x) refl;
        past = past_then p.past (past_two (past_took t));
      }

  pub line_end_text : (b : Here) → Took None m b → Consumed 2 2 (Reads Line true) f b
  line_end_text b t = line_found f m b past_run (rw ((stayed_looked m b t.1).rest, t.0) line_ends) (past_more (omega arith) (past_two (past_look t.1)))

  pub line_end_one : (c : ℕ) (b : Here) → is_newline_char c ≡ true → (c ≡ 13 → ⊥) → Took (Some c) m b → Consumed 2 2 (Reads Line true) f b
  line_end_one c b x other t = line_found f m b past_run (rw t.0 (line_newline (end_one c b.rest x other))) (past_more (omega arith) (past_two (past_took t)))

  pub line_end_lf : (c : ℕ) (b : Here) → c ≡ 10 → Took (Some c) m b → Consumed 2 2 (Reads Line true) f b
  unfolding is_newline_char
  line_end_lf c b is t = line_end_one c b (rw is refl) (λ e. cc) t

  pub line_end_cr : (c : ℕ) (q : Bool) (b e : Here) → c ≡ 13 → Took (Some c) m b → Ate 10 q b e → Consumed 2 2 (Reads Line true) f e
  line_end_cr c q b e is t u =
      line_found f m e past_run (line_newline (ate_cr q m b e (rw is at t) u).0) (past_more (omega arith) (past_two (past_then (past_took t) (past_ate 10 q u))))
