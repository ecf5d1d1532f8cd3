-- A line of a string of many lines from an escape on.
use Rattle.std.proofs.Common.{◌≡◌, ℕ, ◌+◌, ◌<◌, ◌≤◌, Bool, not, true, false, List, [], ◌∷◌, ◌++◌, length, refl, sym, ap, subst, arith, append_assoc, append-nil, length-append}
use Rattle.std.proofs.lemmas.Bool.{false≢true}
use Rattle.std.proofs.lemmas.List.Folds.{list_all-append}
use Rattle.std.specs.Prelude.{Option, Result, Ok, Err, IfOk, IfErr}
use Rattle.std.specs.Str.{chars, IsUtf8}
use Rattle.kdl_text.specs.Chars.{Text, is_literal}
use Rattle.kdl_text.specs.Dedent.{LineUnit, LineEnd, is_line_end}
use Rattle.kdl_text.specs.Internal.Here.{Here}
use Rattle.kdl_text.specs.Spans.{bytes}
use Rattle.kdl_text.specs.Internal.Lines.{IsLine, Paid, ReadLine, Spells, is_one_line, ReadsLine}
use Rattle.kdl_text.specs.MultiLine.{kept, unit, Content}
use Rattle.kdl_text.specs.Raw.{literals}
use Rattle.kdl_text.specs.Internal.Reading.{Moves, Past, Goes}
use Rattle.kdl_text.specs.Strings.{StringUnit, literal, escape, spaces, escape_of, IsUnit, one_literal, one_letter, one_number, one_gap}
use Rattle.kdl_text.specs.declared.strings.StringFailure.{StringFailure}
use Rattle.kdl_text.specs.declared.strings.StringFailure.TheVariants.{Memory}
use Rattle.kdl_text.specs.declared.strings.dedent.Line.{Line}
use Rattle.kdl_text.proofs.Looking.ValueGoes.{goes_start, goes_then}
use Rattle.kdl_text.proofs.Looking.MovesJoin.{moves_then, fewer_bytes, bytes-append}
use Rattle.kdl_text.proofs.Looking.SliceCost.{past_start, past_then}
use Rattle.kdl_text.proofs.Looking.Runs.{length-bytes}
use Rattle.kdl_text.proofs.ManyLines.LineUnits.{plain_spells}
use Rattle.kdl_text.proofs.ManyLines.PlainLoop.{literals_inside}
use Rattle.kdl_text.proofs.ManyLines.LinesUnique.{goes_content, slash_unit, content_unit}

-- after the characters `front`: the escapes read so far, with the characters after each, and a backslash that was taken
pub record InEscaped (f a : Here) (front : Text) (text : List ℕ) (n : ℕ) : Type 0 where
  pub units : List LineUnit
  pub spells : Spells text n (literals front ++ units)
  pub inside : is_one_line units ≡ true
  pub goes : Goes Content (92 ∷ f.rest) units (92 ∷ a.rest)
  pub past : Past 4 0 f a

kept_inside : (u : StringUnit) → is_one_line (kept u) ≡ true
kept_inside (literal c) = refl
kept_inside (escape c) = refl
kept_inside spaces = refl

slash_stops : is_literal 92 ≡ true → ⊥
unfolding is_literal
slash_stops h = false≢true h

no_slash : (c : ℕ) → c ≡ 92 → is_literal c ≡ true → ⊥
no_slash c e h = slash_stops (subst (λ z. is_literal z ≡ true) e h)

joins : (a b : List LineUnit) → is_one_line a ≡ true → is_one_line b ≡ true → is_one_line (a ++ b) ≡ true
joins a b h k = rw (list_all-append (λ u. not (is_line_end u)) a b, h, k) refl

slash_kept : {s r : Text} {u : StringUnit} → IsUnit (92 ∷ s) r u → Goes Content (92 ∷ s) (kept u) r
slash_kept i = goes_content (unit i refl)

slash_shorter : {s r : Text} {u : StringUnit} → IsUnit (92 ∷ s) r u → length r < length s
slash_shorter {s = s} {r = r} i = go i refl
  where
    go : {t : Text} {u : StringUnit} → IsUnit t r u → t ≡ 92 ∷ s → length r < length s
    go (one_literal {c = c} h) e = absurd (no_slash c (let same : c ≡ 92 = cc in same) h)
    go (one_letter {e = d} h) e = let same : d ∷ r ≡ s = cc in omega (arith, ap length same)
    go (one_number {t = t} x) e = let same : 117 ∷ 123 ∷ t ≡ s = cc in omega (arith, ap length same, ap length x.text, length-append x.digits (125 ∷ r))
    go (one_gap {e = d} {t = t} x y) e = let same : d ∷ t ≡ s = cc in omega (arith, ap length same, ap length y.text, length-append y.run r)

pub escaped_begins : (f : Here) (front text : List ℕ) (n : ℕ) → IsUtf8 front → text ≡ front → n ≡ length front → InEscaped f f (chars front) text n
escaped_begins f front text n u e h = rw (e, h) (record { units = []; spells = rw (append-nil (literals (chars front))) (plain_spells front u); inside = refl; goes = goes_start Content (92 ∷ f.rest); past = past_start })

-- a line, after units of it
pub line_after : (closed : Bool) (d : Text) (ws : List LineUnit) {s t : Text} {us : List LineUnit} → Goes Content s us t → is_one_line us ≡ true → ReadsLine Content closed t ws d → ReadsLine Content closed s (us ++ ws) d
line_after true d ws {us = us} g h (one, x) = (joins us ws h one, g.on d ws x)
line_after false d ws {s = s} {us = us} g h (one, x) = (joins us ws h one, subst (λ z. Goes Content s z d) (sym (append_assoc us ws (LineEnd ∷ []))) (goes_then g x))

module _ (f a : Here) (front : Text) (text : List ℕ) (n : ℕ) (i : InEscaped f a front text n) (o : Option ℕ) (b : Here) (unit_is : IsUnit (92 ∷ a.rest) b.rest (escape_of o)) (m : Past 1 1 a b) where
  few_read : bytes b.rest + 1 ≤ bytes a.rest
  few_read = omega (arith, slash_shorter unit_is, ap length m.moves.piece.1, length-append m.moves.piece.0 b.rest, ap bytes m.moves.piece.1, bytes-append m.moves.piece.0 b.rest, length-bytes m.moves.piece.0)

  escape_past : Past 4 0 f b
  escape_past = record {
    moves = moves_then i.past.moves m.moves;
    costs = record { most = omega (arith, i.past.costs.most, m.costs.most, few_read); least = omega (arith, i.past.costs.least, m.costs.least) };
  }

  escape_goes : Goes Content (92 ∷ f.rest) (i.units ++ kept (escape_of o)) b.rest
  escape_goes = goes_then i.goes (slash_kept unit_is)

  module _ (p : Text) (d : Here) (new : List ℕ) (k : ℕ) (v : Moves b d) (paid : Paid b d) (spells : (us : List LineUnit) → Spells text n us → Spells new k (us ++ (kept (escape_of o) ++ literals p))) where
    spelled : Spells new k (literals front ++ (i.units ++ (kept (escape_of o) ++ literals p)))
    spelled = subst (Spells new k) (append_assoc (literals front) i.units (kept (escape_of o) ++ literals p)) (spells (literals front ++ i.units) i.spells)

    all_inside : is_one_line (i.units ++ (kept (escape_of o) ++ literals p)) ≡ true
    all_inside = joins i.units (kept (escape_of o) ++ literals p) i.inside (joins (kept (escape_of o)) (literals p) (kept_inside (escape_of o)) (literals_inside p))

    pub escaped_past : Past 4 0 f d
    escaped_past = past_then escape_past (record { moves = v; costs = paid.costs })

    pub escaped_paid : Paid f d
    escaped_paid = record { shorter = omega (arith, paid.shorter, fewer_bytes escape_past.moves); costs = escaped_past.costs }

    -- up to the next escape
    pub escaped_turn : Goes Content b.rest (literals p) (92 ∷ d.rest) → InEscaped f d front new k
    escaped_turn g = record { units = i.units ++ (kept (escape_of o) ++ literals p); spells = spelled; inside = all_inside; goes = goes_then i.goes (goes_then (slash_kept unit_is) g); past = escaped_past }

    -- up to the end of the line
    pub escaped_ends : (closed : Bool) → ReadsLine Content closed b.rest (literals p) d.rest → (us : List LineUnit) × Spells new k (literals front ++ us) × ReadsLine Content closed (92 ∷ f.rest) us d.rest
    escaped_ends closed x = (i.units ++ (kept (escape_of o) ++ literals p), spelled, subst (λ z. ReadsLine Content closed (92 ∷ f.rest) z d.rest) (append_assoc i.units (kept (escape_of o)) (literals p)) (line_after closed d.rest (literals p) escape_goes (joins i.units (kept (escape_of o)) i.inside (kept_inside (escape_of o))) x))

  -- where what follows was not read, or the memory ended
  pub part_fails : (d : Here) → Past 4 1 b d → Past 4 1 f d
  part_fails d n = past_then escape_past n

  pub part_there : (r : Text) (us : List LineUnit) → Content (92 ∷ f.rest) r us → (v : List LineUnit) × Content b.rest r v
  part_there r us x = let (v, e, rest) = escape_goes.back r us x in (v, rest)

pub escape_there : (f a : Here) (front : Text) (text : List ℕ) (n : ℕ) → InEscaped f a front text n → (r : Text) (us : List LineUnit) → Content (92 ∷ f.rest) r us → (m : Text) × (u : StringUnit) × IsUnit (92 ∷ a.rest) m u
escape_there f a front text n i r us x =
    let (v, e, rest) = i.goes.back r us x in
    let (m, ws, there) = content_unit (λ h. omega arith) rest in
    let (u, unit_there) = slash_unit there in
    (m, u, unit_there)

-- a line with an escape, after the characters before that
pub escaped_joins : {E : Type 0} (r : Result (Line × Bool) E) (f b d : Here) (p : Text) → Goes Content f.rest (literals p) (92 ∷ b.rest) → Moves f b → Paid f b → Moves b d
    → IfOk r (λ (line, closed). (us : List LineUnit) × IsLine line (literals p ++ us) × ReadsLine Content closed (92 ∷ b.rest) us d.rest) → IfOk r (λ x. Paid b d) → IfOk r (λ (line, closed). ReadLine Content line closed f d)
escaped_joins (Ok (line, closed)) f b d p g m k n (us, is, x) l = record {
  units = literals p ++ us;
  is = is;
  reads = line_after closed d.rest us g (literals_inside p) x;
  paid = record { shorter = omega (arith, k.shorter, l.shorter); costs = (past_then (record { moves = m; costs = k.costs }) (record { moves = n; costs = l.costs })).costs };
}
escaped_joins (Err e) f b d p g m k n x l = tt

pub escaped_only : {T : Type 0} (r : Result T StringFailure) (f b : Text) (p : Text) → Goes Content f (literals p) (92 ∷ b) → ((r' : Text) (us : List LineUnit) → Content (92 ∷ b) r' us → IfErr r (λ e. e ≡ Memory)) → (r' : Text) (us : List LineUnit) → Content f r' us → IfErr r (λ e. e ≡ Memory)
escaped_only r f b p g only r' us x = let (v, e, rest) = g.back r' us x in only r' v rest
