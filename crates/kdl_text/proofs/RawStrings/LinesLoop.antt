-- The lines of raw strings of many lines.
use Rattle.std.proofs.Common.{◌≡◌, ℕ, zero, suc, ◌+◌, ◌-◌, ◌<◌, ◌≤◌, true, false, List, [], ◌∷◌, ◌++◌, length, refl, sym, ap, ◌∙◌, subst, arith, append_assoc}
use Rattle.std.proofs.lemmas.Bool.{false≢true}
use Rattle.std.proofs.lemmas.List.{append_cancel_right}
use Rattle.std.proofs.lemmas.Str.{len_utf8_bounds}
use Rattle.std.specs.Prelude.{Some, None, Bool}
use Rattle.kdl_text.specs.Dedent.{LineUnit, LineEnd}
use Rattle.kdl_text.specs.Chars.{Text, Newline, begins, begins_with, times, is_newline_char, is_raw, is_unquoted}
use Rattle.kdl_text.specs.Internal.Here.{Here, Took, Ate, Skips, Returned, tail}
use Rattle.kdl_text.specs.Spans.{bytes, raise}
use Rattle.kdl_text.specs.Internal.Lines.{ReadsLine}
use Rattle.kdl_text.specs.Raw.{closing, literals, line, RawUnits, none, more, RawContent, content}
use Rattle.kdl_text.specs.Internal.Reading.{Past}
use Rattle.kdl_text.proofs.RawStrings.ClosingPlaces.{few_signs, quotes_pass, signs_pass, quotes_before, units_then, literals-append}
use Rattle.kdl_text.proofs.Looking.Returns.{moves_returned}
use Rattle.kdl_text.proofs.Looking.MovesJoin.{moves_then, fewer_bytes, bytes-append}
use Rattle.kdl_text.proofs.ManyLines.PlainLoop.{literals_inside}
use Rattle.kdl_text.proofs.RawStrings.LineLoop.{unquoted_pass}
use Rattle.kdl_text.proofs.RawStrings.RawUnique.{raw_over, goes_raw, raw_char, raw_content_unit, no_raw_unit}
use Rattle.kdl_text.proofs.Looking.SliceCost.{past_start, past_then, past_two, past_more, past_took, past_look, past_ran, past_after}

times_front : (m c : ℕ) (x : Text) → c ∷ (times m c ++ x) ≡ times m c ++ (c ∷ x)
times_front zero c x = refl
times_front (suc m) c x = ap (λ z. c ∷ z) (times_front m c x)

three_front : (m : ℕ) (x : Text) → 34 ∷ 34 ∷ 34 ∷ (times m 34 ++ x) ≡ times m 34 ++ (34 ∷ 34 ∷ 34 ∷ x)
three_front m x = ap (λ z. 34 ∷ 34 ∷ z) (times_front m 34 x) ∙ ap (λ z. 34 ∷ z) (times_front m 34 (34 ∷ x)) ∙ times_front m 34 (34 ∷ 34 ∷ x)

-- one quote less
pub one_after : (n i : ℕ) (o : Bool) (a b : Here) (t : Text) → i < n → Ate 34 o a b → a.rest ≡ times (n - i) 34 ++ t → b.rest ≡ times (n - (i + 1)) 34 ++ t
one_after n i o a b t h did e = go o did
  where
    there : a.rest ≡ 34 ∷ (times (n - (i + 1)) 34 ++ t)
    there = let m : n - i ≡ suc (n - (i + 1)) = omega arith in e ∙ ap (λ k. times k 34 ++ t) m

    go : (o : Bool) → Ate 34 o a b → b.rest ≡ times (n - (i + 1)) 34 ++ t
    go true (r, at, s, x) = ap tail (sym r ∙ there)
    go false (x, l) = absurd (false≢true (sym x ∙ ap (begins 34) there))

pub one_look : (c : ℕ) (o : Bool) (a b : Here) → Ate c o a b → (b.steps ≤ a.steps + 1) × (raise a.steps 0 ≤ raise b.steps 0) × (b.text ≡ a.text)
one_look c true a b t = (omega (arith, t.2), omega (arith, t.2), t.3)
one_look c false a b (n, e) = let s = ap (λ z. z.steps) e in (omega (arith, s), omega (arith, s), ap (λ z. z.text) e)

pub no_more_after : (n i : ℕ) (s t : Text) → n ≤ i → s ≡ times (n - i) 34 ++ t → s ≡ t
no_more_after n i s t h e = let m : n - i ≡ 0 = omega arith in e ∙ ap (λ k. times k 34 ++ t) m

-- a quote, more of them, and number signs
module _ (n k : ℕ) (q a b : Text) (some : 0 < n) (first : q ≡ 34 ∷ a) (t : a ≡ times k 34 ++ b) (s : begins 34 b ≡ false) where
  -- a quote, and one more or none
  pub few_quotes : k < 2 → (p : Text) × (q ≡ p ++ b) × RawUnits (closing 3 n) q b (literals p)
  few_quotes h =
      let e : q ≡ times (suc k) 34 ++ b = first ∙ ap (λ z. 34 ∷ z) t in
      (times (suc k) 34, e, subst (λ z. RawUnits (closing 3 n) z b (literals (times (suc k) 34))) (sym e) (quotes_pass n k (suc k) b some s (λ le. absurd (omega arith)) (omega arith)))

module _ (n k j : ℕ) (q a b d : Text) (some : 0 < n) (first : q ≡ 34 ∷ a) (t : a ≡ times k 34 ++ b) (s : begins 34 b ≡ false) (u : b ≡ times j 35 ++ d) (few : j ≤ n) (stops : j < n → begins 35 d ≡ false) where
  -- where the closing begins
  pub closing_at : 2 ≤ k → j ≡ n → q ≡ times (k - 2) 34 ++ (closing 3 n ++ d)
  closing_at h e =
      let m : k ≡ suc (suc (k - 2)) = omega arith in
      first ∙ ap (λ z. 34 ∷ z) (t ∙ ap (λ i. times i 34 ++ b) m) ∙ ap (λ z. 34 ∷ 34 ∷ 34 ∷ (times (k - 2) 34 ++ z)) (u ∙ ap (λ i. times i 35 ++ d) e) ∙ three_front (k - 2) (times n 35 ++ d)

  pub closed : (r : Text) → 2 ≤ k → j ≡ n → r ≡ closing 3 n ++ d → (p : Text) × (q ≡ p ++ r) × RawUnits (closing 3 n) q r (literals p) × (r ≡ closing 3 n ++ d)
  closed r h e is =
      let text : q ≡ times (k - 2) 34 ++ (closing 3 n ++ d) = closing_at h e in
      let units : RawUnits (closing 3 n) q (closing 3 n ++ d) (literals (times (k - 2) 34)) = subst (λ z. RawUnits (closing 3 n) z (closing 3 n ++ d) (literals (times (k - 2) 34))) (sym text) (quotes_before n (k - 2) d some) in
      (times (k - 2) 34, text ∙ ap (λ z. times (k - 2) 34 ++ z) (sym is), subst (λ z. RawUnits (closing 3 n) q z (literals (times (k - 2) 34))) (sym is) units, is)

  pub open_still : j < n → (p : Text) × (q ≡ p ++ d) × RawUnits (closing 3 n) q d (literals p)
  open_still lt =
      let fewer : 2 ≤ k → begins_with (times n 35) b ≡ false = λ le. ap (begins_with (times n 35)) u ∙ few_signs n j d lt (stops lt) in
      let quotes : RawUnits (closing 3 n) (34 ∷ (times k 34 ++ b)) b (literals (times (suc k) 34)) = quotes_pass n k (suc k) b some s fewer (omega arith) in
      let signs : RawUnits (closing 3 n) b d (literals (times j 35)) = subst (λ z. RawUnits (closing 3 n) z d (literals (times j 35))) (sym u) (signs_pass (34 ∷ 34 ∷ times n 35) j d) in
      let e : q ≡ 34 ∷ (times k 34 ++ b) = first ∙ ap (λ z. 34 ∷ z) t in
      let p = times (suc k) 34 ++ times j 35 in (
        p,
        e ∙ ap (λ z. times (suc k) 34 ++ z) u ∙ sym (append_assoc (times (suc k) 34) (times j 35) d),
        subst (λ z. RawUnits (closing 3 n) z d (literals p)) (sym e) (subst (λ z. RawUnits (closing 3 n) (34 ∷ (times k 34 ++ b)) d z) (sym (literals-append (times (suc k) 34) (times j 35))) (units_then quotes signs)),
      )

quotes_bytes : (k : ℕ) → k ≤ bytes (times k 34)
quotes_bytes zero = omega arith
quotes_bytes (suc k) = omega (arith, quotes_bytes k, (len_utf8_bounds 34).0)

-- two quotes or more, and number signs
pub signs_past : (k : ℕ) (a b d : Here) → a.rest ≡ times k 34 ++ b.rest → 2 ≤ k → Past 1 1 a b → Past 1 1 b d → Past 2 1 a d
signs_past k a b d t h x y = record {
  moves = moves_then x.moves y.moves;
  costs = record { most = omega (arith, x.costs.most, y.costs.most, fewer_bytes y.moves, ap bytes t, bytes-append (times k 34) b.rest, quotes_bytes k); least = omega (arith, x.costs.least, y.costs.least) };
}

-- and the quotes before the closing once more
pub closing_past : (k : ℕ) (a b d e : Here) → a.rest ≡ times k 34 ++ b.rest → 2 ≤ k → Past 1 1 a b → Past 1 1 b d → Returned (k - 2) d e → Past 2 1 a e
closing_past k a b d e t h x y r = record {
  moves = moves_then x.moves (moves_then y.moves (moves_returned r));
  costs = record {
    most = omega (arith, x.costs.most, y.costs.most, fewer_bytes y.moves, ap bytes t, bytes-append (times k 34) b.rest, quotes_bytes k, r.most, ap bytes r.rest);
    least = omega (arith, x.costs.least, y.costs.least, r.counts, ap length r.rest);
  };
}

-- the line read so far of a raw string with this closing after its first quote
pub record InRaw (q : Text) (f a : Here) : Type 0 where
  pub read : Text
  pub text : f.rest ≡ read ++ a.rest
  pub units : RawUnits (34 ∷ q) f.rest a.rest (literals read)
  pub past : Past 2 0 f a

pub raw_begins : (q : Text) (f : Here) → InRaw q f f
raw_begins q f = record { read = []; text = refl; units = none; past = past_start }

module _ (q : Text) (f a : Here) (i : InRaw q f a) where
  raw_on : (b : Here) (p : Text) → a.rest ≡ p ++ b.rest → RawUnits (34 ∷ q) a.rest b.rest (literals p) → Past 2 0 a b → InRaw q f b
  raw_on b p e u k = record {
    read = i.read ++ p;
    text = i.text ∙ ap (λ z. i.read ++ z) e ∙ sym (append_assoc i.read p b.rest);
    units = subst (RawUnits (34 ∷ q) f.rest b.rest) (sym (literals-append i.read p)) (units_then i.units u);
    past = past_then i.past k;
  }

  pub raw_read : (p : Text) → f.rest ≡ p ++ a.rest → i.read ≡ p
  raw_read p e = append_cancel_right i.read p a.rest (sym i.text ∙ e)

  module _ (c : ℕ) (b : Here) (t : Took (Some c) a b) where
    -- a character that is no quote, and a run of others
    pub raw_run : (d : Here) → (c ≡ 34 → ⊥) → is_raw c ≡ true → Skips is_unquoted b d → InRaw q f d
    raw_run d ne h (run, r) =
        let e : a.rest ≡ (c ∷ run) ++ d.rest = t.0 ∙ ap (λ z. c ∷ z) r.text in
        let units : RawUnits (34 ∷ q) (c ∷ (run ++ d.rest)) d.rest (literals (c ∷ run)) = more (raw_char ne h) (unquoted_pass q run d.rest r.all) in
        raw_on d (c ∷ run) e (subst (λ z. RawUnits (34 ∷ q) z d.rest (literals (c ∷ run))) (sym e) units) (past_after t (past_two (past_ran r)))

    -- quotes and number signs that are no closing
    pub raw_open : (s : Text) (d : Here) → s ≡ a.rest → Past 2 1 b d → (p : Text) × (s ≡ p ++ d.rest) × RawUnits (34 ∷ q) s d.rest (literals p) → InRaw q f d
    raw_open s d same m (p, e, u) = raw_on d p (sym same ∙ e) (subst (λ z. RawUnits (34 ∷ q) z d.rest (literals p)) same u) (past_after t m)

    pub raw_past : Past 2 1 f b
    raw_past = past_more (omega arith) (past_then i.past (past_two (past_took t)))

  -- the end of the text
  pub raw_runs_out : (b : Here) → Took None a b → ((r : Text) (us : List LineUnit) → RawContent (34 ∷ q) f.rest r us → ⊥) × Past 2 1 f b
  raw_runs_out b t = (raw_over q f.rest a.rest (literals i.read) i.units t.0, past_then i.past (past_two (past_look t.1)))

-- a line of a string of many lines
module _ (n : ℕ) (f a : Here) (i : InRaw (34 ∷ 34 ∷ times n 35) f a) (c : ℕ) (b : Here) (t : Took (Some c) a b) where
  module _ (s : Text) (d : Here) (r : Text) (same : s ≡ a.rest) (m : Past 2 1 b d) (found : (p : Text) × (s ≡ p ++ r) × RawUnits (closing 3 n) s r (literals p) × (r ≡ closing 3 n ++ d.rest)) where
    before : f.rest ≡ (i.read ++ found.0) ++ r
    before = i.text ∙ ap (λ z. i.read ++ z) (sym same ∙ found.1) ∙ sym (append_assoc i.read found.0 r)

    pub raw_ahead : (x : Text) × (f.rest ≡ x ++ r)
    raw_ahead = (i.read ++ found.0, before)

    -- the closing
    pub raw_close : (p : Text) → f.rest ≡ p ++ r → ReadsLine (RawContent (closing 3 n)) true f.rest (literals p) d.rest × (bytes p + 1 + bytes d.rest ≤ bytes f.rest) × Past 2 0 f d
    raw_close p e =
        let is : i.read ++ found.0 ≡ p = append_cancel_right (i.read ++ found.0) p r (sym before ∙ e) in
        let here : RawUnits (closing 3 n) a.rest r (literals found.0) = subst (λ z. RawUnits (closing 3 n) z r (literals found.0)) same found.2 in
        let units : RawUnits (closing 3 n) f.rest r (literals (i.read ++ found.0)) = subst (RawUnits (closing 3 n) f.rest r) (sym (literals-append i.read found.0)) (units_then i.units here) in
        rw (← is) (
          (literals_inside (i.read ++ found.0), content units found.3),
          omega (arith, ap bytes before, bytes-append (i.read ++ found.0) r, ap bytes found.3, (len_utf8_bounds 34).0, bytes-append (times n 35) d.rest),
          past_then i.past (past_after t m),
        )

  -- a newline
  pub raw_newline : (d : Here) (p : Text) → Newline (c ∷ b.rest) d.rest → Past 1 1 b d → f.rest ≡ p ++ a.rest
      → ReadsLine (RawContent (closing 3 n)) false f.rest (literals p) d.rest × (bytes p + 1 + bytes d.rest ≤ bytes f.rest) × Past 2 0 f d
  raw_newline d p nl m e =
      let end : RawUnits (closing 3 n) a.rest d.rest (LineEnd ∷ []) = subst (λ z. RawUnits (closing 3 n) z d.rest (LineEnd ∷ [])) (sym t.0) (more (line nl) none) in
      rw (← raw_read _ f a i p e) (
        (literals_inside i.read, goes_raw (units_then i.units end)),
        omega (arith, ap bytes i.text, bytes-append i.read a.rest, ap bytes t.0, (len_utf8_bounds c).0, fewer_bytes m.moves),
        past_then i.past (past_after t (past_two m)),
      )

  -- a character that may not occur there
  pub raw_stuck : (c ≡ 34 → ⊥) → is_newline_char c ≡ false → is_raw c ≡ false → (r : Text) (us : List LineUnit) → RawContent (closing 3 n) f.rest r us → ⊥
  raw_stuck ne nl bad r us x =
      let (v, e, rest) = (goes_raw i.units).back r us x in
      let (m, u, there) = raw_content_unit ne (subst (λ z. RawContent (closing 3 n) z r v) t.0 rest) in
      no_raw_unit nl bad there
