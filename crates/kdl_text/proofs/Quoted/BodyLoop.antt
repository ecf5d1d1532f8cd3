-- The loop over the units of a quoted string.
use Rattle.std.proofs.Common.{◌≡◌, ℕ, false, ◌∷◌, ◌++◌, sym, ap, ◌∙◌, subst, arith}
use Rattle.std.proofs.lemmas.List.{append_cancel_right}
use Rattle.std.specs.Prelude.{Some, None, Result, Ok, Err, MatchResult}
use Rattle.std.specs.Result.{IsErrAnd}
use Rattle.kdl_text.specs.Chars.{Text, is_literal, starts}
use Rattle.kdl_text.specs.Internal.Here.{Here, Took}
use Rattle.kdl_text.specs.Internal.Reading.{Past, Goes}
use Rattle.kdl_text.specs.Strings.{StringUnit, unit_value, Run, IsUnit, QuotedBody}
use Rattle.kdl_text.proofs.Looking.ValueGoes.{goes_then, goes_end, goes_none}
use Rattle.kdl_text.proofs.Looking.SliceCost.{past_then, past_two, past_three, past_more, past_took, past_pays}
use Rattle.kdl_text.proofs.Quoted.UnitUnique.{goes_unit, goes_literals, body_done, body_end, body_empty, body_none, body_unit, unit_front}

-- the string read so far, up to no literal character
pub record Reading (f a : Here) (out : Text) : Type 0 where
  pub goes : Goes QuotedBody f.rest out a.rest
  pub stops : starts is_literal a.rest ≡ false
  pub past : Past 3 1 f a

goes_run : {s r x : Text} → Run is_literal s r → s ≡ x ++ r → Goes QuotedBody s x r
goes_run {s = s} {r = r} {x = x} i t =
    let same : i.run ≡ x = append_cancel_right i.run x r (sym i.text ∙ t) in
    let e : i.run ++ r ≡ s = sym i.text in
    rw (← same) (subst (λ z. Goes QuotedBody z i.run r) e (goes_literals i.run r i.all))

pub reading_begins : (f a : Here) (x out : Text) → Run is_literal f.rest a.rest → f.rest ≡ x ++ a.rest → Past 2 1 f a → out ≡ x → Reading f a out
reading_begins f a x out i t p e = rw e (record { goes = goes_run i t; stops = i.stops; past = past_three p })

module _ (f a : Here) (out : Text) (i : Reading f a out) where
  backslash_took : (c : ℕ) (b : Here) → Took (Some c) a b → c ≡ 92 → Took (Some 92) a b
  backslash_took c b took is = subst (λ z. Took (Some z) a b) is took

  -- where the memory ended
  pub reading_runs_out : (c : ℕ) (b d e : Here) → Took (Some c) a b → Past 1 1 b d → Past 2 1 d e → Past 3 1 f e
  reading_runs_out c b d e took m n = past_then i.past (past_pays took (past_then (past_three (past_two m)) (past_three n)))

  -- where an escape was not read
  pub reading_fails : (c : ℕ) (b d : Here) → Took (Some c) a b → Past 1 1 b d → Past 3 1 f d
  reading_fails c b d took m = past_then i.past (past_pays took (past_more (omega arith) (past_three (past_two m))))

  pub reading_past : (c : ℕ) (b : Here) → Took (Some c) a b → Past 3 1 f b
  reading_past c b took = past_then i.past (past_three (past_two (past_took took)))

  pub reading_turn : (c : ℕ) (b d e : Here) (mid x new : Text) → Took (Some c) a b → c ≡ 92 → (u : StringUnit) × IsUnit (92 ∷ b.rest) d.rest u × (mid ≡ out ++ unit_value u) → Past 1 1 b d
      → Run is_literal d.rest e.rest → d.rest ≡ x ++ e.rest → Past 2 1 d e → new ≡ mid ++ x → Reading f e new
  reading_turn c b d e mid x new any is (u, unit, pushed) m run t n made =
      let took : Took (Some 92) a b = backslash_took c b any is in
      let g : Goes QuotedBody a.rest (unit_value u) d.rest = goes_unit (subst (λ z. IsUnit z d.rest u) (sym took.0) unit) in
      rw (made, pushed) (record { goes = goes_then (goes_then i.goes g) (goes_run run t); stops = run.stops; past = reading_runs_out 92 b d e took m n })

  pub reading_unit : (c : ℕ) (b : Here) → Took (Some c) a b → c ≡ 92 → (r w : Text) → QuotedBody f.rest r w → (m : Text) × (u : StringUnit) × IsUnit (92 ∷ b.rest) m u
  reading_unit c b any is r w q =
      let (v, e, more) = i.goes.back r w q in
      body_unit (subst (λ z. QuotedBody z r v) (backslash_took c b any is).0 more)

  pub reading_ends : (c : ℕ) (b : Here) → Took (Some c) a b → c ≡ 34 → QuotedBody f.rest b.rest out × ((r w : Text) → QuotedBody f.rest r w → (r ≡ b.rest) × (w ≡ out))
  reading_ends c b took is =
      let g : Goes QuotedBody f.rest out (34 ∷ b.rest) = subst (Goes QuotedBody f.rest out) (took.0 ∙ ap (λ z. z ∷ b.rest) is) i.goes in
      goes_end g (body_done b.rest) (λ r v x. body_end x)

  pub reading_over : (b : Here) → Took None a b → (r w : Text) → QuotedBody f.rest r w → ⊥
  reading_over b took = goes_none (subst (Goes QuotedBody f.rest out) took.0 i.goes) (λ r v. body_empty)

  -- where there is no unit and no quote
  pub reading_none : (c : ℕ) (b : Here) → Took (Some c) a b → (c ≡ 34 → ⊥) → ((m : Text) (u : StringUnit) → IsUnit (c ∷ b.rest) m u → ⊥) → (r w : Text) → QuotedBody f.rest r w → ⊥
  reading_none c b took ne none = goes_none (subst (Goes QuotedBody f.rest out) took.0 i.goes) (λ r v. body_none ne none)

  pub reading_other : (c : ℕ) (b : Here) → Took (Some c) a b → (c ≡ 34 → ⊥) → (c ≡ 92 → ⊥) → (r w : Text) → QuotedBody f.rest r w → ⊥
  reading_other c b took ne apart = reading_none c b took ne (λ m u. unit_front (sym (ap (starts is_literal) took.0) ∙ i.stops) apart)

pub failed : {T E : Type 0} (r : Result T E) (A : T → Type 0) (x y : E) → IsErrAnd r (λ e. e ≡ x) → x ≡ y → MatchResult r A (λ e. e ≡ y)
failed (Ok v) A x y h k = absurd h
failed (Err e) A x y h k = h ∙ k
