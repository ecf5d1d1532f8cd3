-- Whole raw strings: from their number signs, their quotes and what is between these.
use Rattle.std.proofs.Common.{◌≡◌, ℕ, zero, suc, ◌<◌, true, false, ◌&&◌, ◌==◌, [], ◌∷◌, ◌++◌, refl, sym, ap, ◌∙◌, subst, arith}
use Rattle.std.proofs.Math.Bool.{and-true}
use Rattle.std.proofs.lemmas.Bool.{false≢true, true≢false, not_from_false}
use Rattle.std.specs.Prelude.{Result, Ok, Err, IfOk}
use Rattle.kdl_text.specs.Chars.{Text, begins, begins_two, times}
use Rattle.kdl_text.specs.Raw.{closing, literals, is_single, char, RawUnits, none, more, RawContent, content, MultiLineRawBody, IsRaw, on_one_line, on_many_lines}
use Rattle.kdl_text.specs.Internal.Lines.{BodyOf}
use Rattle.kdl_text.proofs.RawStrings.ClosingPlaces.{signs_same, no_signs}

no_first : (m : ℕ) (d x : Text) → 0 < m → d ≡ times m 35 ++ x → begins 35 d ≡ false → ⊥
no_first zero d x some e h = omega arith
no_first (suc m) d x some e h = true≢false (sym (ap (begins 35) e) ∙ h)

-- where there are no number signs
pub unsigned : (j : ℕ) (s d r w : Text) → s ≡ times j 35 ++ d → begins 35 d ≡ false → j ≡ 0 → IsRaw s r w → ⊥
unsigned j s d r w e h z (on_one_line q) = no_first q.signs d _ q.some (sym (e ∙ ap (λ i. times i 35 ++ d) z) ∙ q.text) h
unsigned j s d r w e h z (on_many_lines q) = no_first q.signs d _ q.some (sym (e ∙ ap (λ i. times i 35 ++ d) z) ∙ q.text) h

-- where no quote comes after them
pub unquoted : (j : ℕ) (s d r w : Text) → s ≡ times j 35 ++ d → begins 35 d ≡ false → begins 34 d ≡ false → IsRaw s r w → ⊥
unquoted j s d r w e h k (on_one_line q) = no_signs j q.signs d _ h k (sym e ∙ q.text)
unquoted j s d r w e h k (on_many_lines q) = no_signs j q.signs d _ h k (sym e ∙ q.text)

-- a line that begins with two quotes
pub looks_many : (n : ℕ) (e r w : Text) → 0 < n → RawContent (closing 1 n) (34 ∷ 34 ∷ e) r (literals w) → is_single w ≡ true → ⊥
looks_many zero e r w some x single = omega arith
looks_many (suc n) e r [] some (content none h) single = apart 34 35 refl refl (second h)
  where
    second : {c d : ℕ} {x y : Text} → 34 ∷ c ∷ x ≡ 34 ∷ d ∷ y → c ≡ d
    second k = cc

    apart : (a b : ℕ) → a ≡ 34 → b ≡ 35 → a ≡ b → ⊥
    apart a b h k same = omega arith
looks_many (suc n) e r (c ∷ []) some (content (more (char a b) none) h) single = false≢true single
looks_many (suc n) e r (c ∷ d ∷ w) some (content (more (char a b) (more (char f g) is)) h) single = false≢true single

-- a body with number signs
raw_body : (j : ℕ) {t r w : Text} → 0 < j → BodyOf j t r w → MultiLineRawBody j t r w
raw_body zero h b = absurd (omega (arith, h))
raw_body (suc j) h b = b

body_raw : (j : ℕ) {t r w : Text} → 0 < j → MultiLineRawBody j t r w → BodyOf j t r w
body_raw zero h b = absurd (omega (arith, h))
body_raw (suc j) h b = b

module _ (j : ℕ) (s m : Text) (text : s ≡ times j 35 ++ 34 ∷ m) (some : 0 < j) where
  pub many_raw : {T E : Type 0} (o : Result T E) (f : T → Text) (e r : Text) → m ≡ 34 ∷ 34 ∷ e → IfOk o (λ v. BodyOf j e r (f v)) → IfOk o (λ v. IsRaw s r (f v))
  many_raw (Ok v) f e r h b = on_many_lines (record { signs = j; some = some; body = e; text = text ∙ ap (λ z. times j 35 ++ 34 ∷ z) h; is_body = raw_body j some b })
  many_raw (Err x) f e r h b = tt

  pub many_raw_only : (e r w : Text) → m ≡ 34 ∷ 34 ∷ e → IsRaw s r w → BodyOf j e r w
  many_raw_only e r w h (on_one_line q) =
      let (same, rest) = signs_same j q.signs m q.body (sym text ∙ q.text) in
      let body : q.body ≡ 34 ∷ 34 ∷ e = sym rest ∙ h in
      absurd (looks_many q.signs e r w q.some (subst (λ z. RawContent (closing 1 q.signs) z r (literals w)) body q.content) q.single)
  many_raw_only e r w h (on_many_lines q) =
      let (same, rest) = signs_same j q.signs m (34 ∷ 34 ∷ q.body) (sym text ∙ q.text) in
      let body : q.body ≡ e = tails (sym rest ∙ h) in
      body_raw j some (subst (λ z. MultiLineRawBody z e r w) (sym same) (subst (λ z. MultiLineRawBody q.signs z r w) body q.is_body))
    where
      tails : {x y : Text} → 34 ∷ 34 ∷ x ≡ 34 ∷ 34 ∷ y → x ≡ y
      tails k = cc

  pub one_raw_only : (n r w : Text) → begins_two 34 34 m ≡ false → n ≡ m → IsRaw s r w → RawContent (closing 1 j) n r (literals w)
  one_raw_only n r w h k (on_one_line q) =
      let (same, rest) = signs_same j q.signs m q.body (sym text ∙ q.text) in
      subst (λ z. RawContent (closing 1 z) n r (literals w)) (sym same) (subst (λ z. RawContent (closing 1 q.signs) z r (literals w)) (sym rest ∙ sym k) q.content)
  one_raw_only n r w h k (on_many_lines q) =
      let (same, rest) = signs_same j q.signs m (34 ∷ 34 ∷ q.body) (sym text ∙ q.text) in
      absurd (true≢false (sym (ap (begins_two 34 34) rest) ∙ h))

units_text : (p t m v : Text) → RawUnits p t m (literals v) → t ≡ v ++ m
units_text p t m [] none = refl
units_text p t m (c ∷ v) (more (char a b) is) = ap (λ z. c ∷ z) (units_text p _ m v is)

content_text : (p t r v : Text) → RawContent p t r (literals v) → t ≡ v ++ (p ++ r)
content_text p t r v (content {m = m} is e) = units_text p t m v is ∙ ap (λ z. v ++ z) e

single_before : (v x : Text) → begins_two 34 34 (v ++ (34 ∷ x)) ≡ false → is_single v ≡ true
single_before [] x h = refl
single_before (c ∷ []) x h = not_from_false (c == 34) (sym (and-true (c == 34)) ∙ h)
single_before (c ∷ d ∷ v) x h = not_from_false ((c == 34) && (d == 34)) h

-- a string of one line
pub one_raw : (j : ℕ) (s m n r v w : Text) → s ≡ times j 35 ++ 34 ∷ m → 0 < j → begins_two 34 34 m ≡ false → n ≡ m → RawContent (closing 1 j) n r (literals v) → w ≡ v → IsRaw s r w
one_raw j s m n r v w text some h k x e =
    let here : RawContent (closing 1 j) m r (literals v) = subst (λ z. RawContent (closing 1 j) z r (literals v)) k x in
    rw e (on_one_line (record {
      signs = j;
      some = some;
      body = m;
      text = text;
      content = here;
      single = single_before v (times j 35 ++ r) (sym (ap (begins_two 34 34) (content_text (closing 1 j) m r v here)) ∙ h);
    }))
