-- One turn of the loop over the parts of a block comment.
use Rattle.std.proofs.Common.{◌≡◌, ℕ, ◌+◌, ◌-◌, ◌<◌, ◌≤◌, [], ◌∷◌, ◌∙◌, true, false, sym, refl, arith, ap, ◌^◌, Fits, w64}
use Rattle.std.specs.Prelude.{Some, None}
use Rattle.std.proofs.lemmas.Str.{len_utf8_bounds}
use Rattle.std.proofs.lemmas.Bool.{ne_eqb}
use Rattle.kdl_text.specs.Internal.Here.{Here, Took, Ate, Passed, looked}
use Rattle.kdl_text.specs.Spans.{bytes}
use Rattle.kdl_text.specs.Chars.{is_comment_char}
use Rattle.kdl_text.proofs.Looking.SliceCost.{past_start, past_then, past_two, past_more, past_took, past_look, past_after, past_passed}
use Rattle.kdl_text.specs.Trivia.{Parts}
use Rattle.kdl_text.specs.Internal.Reading.{Reads, Past}
use Rattle.kdl_text.proofs.Spacing.CommentDepth.{Ends, none, Same, same_opens, same_closes, same_passes, same_run, same_ends, same_starts, none_end}
use Rattle.kdl_text.proofs.Looking.MovesJoin.{stayed_looked}

-- where the loop is
pub record Inside (f : Here) (depth : ℕ) (a : Here) : Type 0 where
  pub inside : 0 < depth
  pub few : depth + f.at ≤ a.at + 1
  pub same : Same (Parts f.rest) (Ends depth a.rest)
  pub past : Past 2 0 f a

pub starts : (f : Here) → Inside f 1 f
starts f = record { inside = omega arith; few = omega arith; same = same_starts _; past = past_start }

-- past characters at which no comment begins or ends
pub after_passed : (f : Here) (n : ℕ) (a m : Here) → Inside f n a → Passed is_comment_char a m → Inside f n m
after_passed f n a m i r = record {
  inside = i.inside;
  few = omega (arith, i.few, r.at);
  same = same_run _ r.run a.rest m.rest n i.inside r.all r.text i.same;
  past = past_then i.past (past_two (past_passed r));
}

module _ (f : Here) (n c : ℕ) (a b e : Here) (i : Inside f n a) (took : Took (Some c) a b) where
  pub after_open : c ≡ 47 → Took (Some 42) b e → Inside f (n + 1) e
  after_open is ate = record {
    inside = omega arith;
    few = let h = len_utf8_bounds c in omega (arith, took.1, ate.1, h.0);
    same = same_opens _ a.rest e.rest n i.inside (took.0 ∙ ap (λ x. x ∷ b.rest) is ∙ ap (λ s. 47 ∷ s) ate.0) i.same;
    past = past_then i.past (past_two (past_then (past_took took) (past_took ate)));
  }

  pub depth_fits : Took (Some 42) b e → a.at + bytes a.rest < 2 ^ 64 → Fits w64 (n + 1)
  depth_fits ate room = record { fits = omega (arith, i.few, ap bytes took.0, (len_utf8_bounds c).0, ap bytes ate.0, (len_utf8_bounds 42).0, room) }

  pub after_close : c ≡ 42 → Took (Some 47) b e → 0 < n - 1 → Inside f (n - 1) e
  after_close is ate more = record {
    inside = more;
    few = omega (arith, took.1, ate.1);
    same = same_closes _ a.rest e.rest n i.inside (took.0 ∙ ap (λ x. x ∷ b.rest) is ∙ ap (λ s. 42 ∷ s) ate.0) i.same;
    past = past_then i.past (past_two (past_then (past_took took) (past_took ate)));
  }

  pub after_one : (c ≡ 47 → ⊥) → (c ≡ 42 → ⊥) → Inside f n b
  after_one x47 x42 = record {
    inside = i.inside;
    few = omega (arith, took.1, i.few);
    same = same_passes _ a.rest b.rest n c i.inside took.0 (rw (ne_eqb c 47 x47) refl) (rw (ne_eqb c 42 x42) refl) i.same;
    past = past_then i.past (past_two (past_took took));
  }

  looked_after : e ≡ looked b → Past 2 0 f e × (n + f.at ≤ e.at + 1) × (a.rest ≡ c ∷ e.rest)
  looked_after to =
      let s = stayed_looked b e to in
      (past_then i.past (past_after took (past_two (past_look to))), omega (arith, took.1, s.at, i.few), took.0 ∙ ap (λ x. c ∷ x) (sym s.rest))

  pub after_slash : c ≡ 47 → Ate 42 false b e → Inside f n e
  after_slash is (other, to) =
      let (past, few, text) = looked_after to in
      let rest = (stayed_looked b e to).rest in
      record { inside = i.inside; few = few; same = same_passes _ a.rest e.rest n 47 i.inside (text ∙ ap (λ z. z ∷ e.rest) is) (rw rest other) refl i.same; past = past }

  pub after_star : c ≡ 42 → Ate 47 false b e → Inside f n e
  after_star is (other, to) =
      let (past, few, text) = looked_after to in
      let rest = (stayed_looked b e to).rest in
      record { inside = i.inside; few = few; same = same_passes _ a.rest e.rest n 42 i.inside (text ∙ ap (λ z. z ∷ e.rest) is) refl (rw rest other) i.same; past = past }

  pub after_all : c ≡ 42 → Took (Some 47) b e → n - 1 ≡ 0 → Reads Parts true f.rest e.rest × Past 2 1 f e
  after_all is ate last = (
    (λ r. let s = same_closes _ a.rest e.rest n i.inside (took.0 ∙ ap (λ x. x ∷ b.rest) is ∙ ap (λ s. 42 ∷ s) ate.0) i.same r in
        let t = rw last at s in (λ p. sym (none_end (t.0 p)), λ q. t.1 (rw q none))),
    past_more (omega arith) (past_then i.past (past_two (past_then (past_took took) (past_took ate)))),
  )

pub after_end : (f a b : Here) (n : ℕ) → Inside f n a → Took None a b → Reads Parts false f.rest b.rest × (b.rest ≡ []) × Past 2 1 f b
after_end f a b n i took = (
  same_ends (Parts f.rest) a.rest a.rest n i.inside took.0 i.same,
  (stayed_looked a b took.1).rest ∙ took.0,
  past_then i.past (past_two (past_look took.1)),
)
