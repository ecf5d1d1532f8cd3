-- The text and the units of a line.
use Rattle.std.proofs.Common.{◌≡◌, ℕ, ◌+◌, ◌<◌, ◌≤◌, ◌&&◌, true, false, List, [], ◌∷◌, ◌++◌, length, refl, sym, ap, ◌∙◌, subst, arith, append_assoc, append-nil}
use Rattle.std.proofs.lemmas.Bool.{false≢true, and_right}
use Rattle.std.proofs.lemmas.List.Folds.{list_all-append}
use Rattle.std.proofs.lemmas.Str.{chars-append, encodes-chars, encodes-append, len_utf8_bounds}
use Rattle.std.specs.List.{list_all}
use Rattle.std.specs.Prelude.{Option, Some, None, MatchOption}
use Rattle.std.specs.Str.{chars, IsUtf8}
use Rattle.std.specs.Str.Pattern.{FindsTextPrefix, StripsPrefix}
use lib.Utf8.{encodes}
use denote.Ref.{Bor}
use Rattle.kdl_text.specs.Chars.{Text, is_space}
use Rattle.kdl_text.specs.Dedent.{LineUnit, Literal, Escape, LineEnd, is_space_unit, is_blank_line, unit_text, line_text}
use Rattle.kdl_text.specs.Internal.Lines.{Spells, begins_escape}
use Rattle.kdl_text.specs.Raw.{literals}
use Rattle.kdl_text.specs.Spans.{bytes}
use Rattle.kdl_text.proofs.Looking.MovesJoin.{bytes-append}
use Rattle.kdl_text.proofs.Looking.Texts.{bytes-chars}
use Rattle.kdl_text.proofs.RawStrings.ClosingPlaces.{literals-append}

line_text-append : (xs ys : List LineUnit) → line_text (xs ++ ys) ≡ line_text xs ++ line_text ys
line_text-append [] ys = refl
line_text-append (x ∷ xs) ys = ap (λ z. unit_text x ++ z) (line_text-append xs ys) ∙ sym (append_assoc (unit_text x) (line_text xs) (line_text ys))

literals_text : (p : Text) → line_text (literals p) ≡ p
literals_text [] = refl
literals_text (c ∷ p) = ap (λ z. c ∷ z) (literals_text p)

blank_literals : (p : Text) → list_all is_space p ≡ is_blank_line (literals p)
blank_literals [] = refl
blank_literals (c ∷ p) = ap (λ b. is_space c && b) (blank_literals p)

pub spelled : {t u : List ℕ} (n : ℕ) (us : List LineUnit) → u ≡ t → Spells t n us → Spells u n us
spelled n us e s = subst (λ z. Spells z n us) (sym e) s

-- a line without escapes
pub plain_spells : (t : List ℕ) → IsUtf8 t → Spells t (length t) (literals (chars t))
plain_spells t u = record { front = chars t; others = []; units = sym (append-nil (literals (chars t))); escape = refl; is = sym (append-nil (chars t)); len = sym (bytes-chars t u) }

escape_more : (others : List LineUnit) (c : ℕ) (xs : List LineUnit) → begins_escape others ≡ true → begins_escape (others ++ (Escape c ∷ xs)) ≡ true
escape_more [] c xs h = refl
escape_more (Escape d ∷ others) c xs h = refl
escape_more (Literal d ∷ others) c xs h = h
escape_more (LineEnd ∷ others) c xs h = h

-- units without text that begin with an escape are none
no_text : (others : List LineUnit) → begins_escape others ≡ true → bytes (line_text others) ≡ 0 → others ≡ []
no_text [] h e = refl
no_text (Escape c ∷ others) h e = absurd (omega (arith, (len_utf8_bounds c).0, e))
no_text (Literal c ∷ others) h e = absurd (false≢true h)
no_text (LineEnd ∷ others) h e = absurd (false≢true h)

module _ (t : List ℕ) (n : ℕ) (us : List LineUnit) (text : IsUtf8 t) (s : Spells t n us) where
  len_is : length t ≡ n + bytes (line_text s.others)
  len_is = omega (arith, bytes-chars t text, ap bytes s.is, bytes-append s.front (line_text s.others), s.len)

  -- units more, where the first escape stays the first
  spells_on : (new : List ℕ) (xs : List LineUnit) → begins_escape (s.others ++ xs) ≡ true → chars new ≡ chars t ++ line_text xs → Spells new n (us ++ xs)
  spells_on new xs h e = record {
    front = s.front;
    others = s.others ++ xs;
    units = ap (λ z. z ++ xs) s.units ∙ append_assoc (literals s.front) s.others xs;
    escape = h;
    is = e ∙ ap (λ z. z ++ line_text xs) s.is ∙ append_assoc s.front (line_text s.others) (line_text xs) ∙ ap (λ z. s.front ++ z) (sym (line_text-append s.others xs));
    len = s.len;
  }

  -- the character of an escape, and characters after it
  pub spells_escape : (new : List ℕ) (c : ℕ) (p : Text) → chars new ≡ chars t ++ (c ∷ p) → Spells new n (us ++ (Escape c ∷ literals p))
  spells_escape new c p e = spells_on new (Escape c ∷ literals p) (escape_more s.others c (literals p) s.escape) (e ∙ ap (λ z. chars t ++ (c ∷ z)) (sym (literals_text p)))

  -- characters after an escape of spaces, before which another escape is
  pub spells_after : (new : List ℕ) (p : Text) → (n ≡ length t → ⊥) → chars new ≡ chars t ++ p → Spells new n (us ++ literals p)
  spells_after new p some e = spells_on new (literals p) (later s.others refl s.escape) (e ∙ ap (λ z. chars t ++ z) (sym (literals_text p)))
    where
      later : (os : List LineUnit) → s.others ≡ os → begins_escape os ≡ true → begins_escape (os ++ literals p) ≡ true
      later [] is h = absurd (some (omega (arith, len_is, ap (λ z. bytes (line_text z)) is)))
      later (Escape d ∷ os) is h = refl
      later (Literal d ∷ os) is h = h
      later (LineEnd ∷ os) is h = h

  literal_units : s.others ≡ [] → us ≡ literals (chars t)
  literal_units none = s.units ∙ ap (λ z. literals s.front ++ z) none ∙ append-nil (literals s.front) ∙ ap literals (sym (append-nil s.front) ∙ ap (λ z. s.front ++ line_text z) (sym none) ∙ sym s.is)

  all_literal : n ≡ length t → us ≡ literals (chars t)
  all_literal all = literal_units (no_text s.others s.escape (omega (arith, len_is)))

  -- or before which none is
  pub spells_plain : (new : List ℕ) (p : Text) → IsUtf8 new → n ≡ length t → chars new ≡ chars t ++ p → Spells new (length new) (us ++ literals p)
  spells_plain new p u all e =
      let units : us ++ literals p ≡ literals (chars new) = ap (λ z. z ++ literals p) (all_literal all) ∙ sym (literals-append (chars t) p) ∙ ap literals (sym e) in
      subst (Spells new (length new)) (sym units) (plain_spells new u)

  -- whether the line is blank
  pub blank_all : n ≡ length t → list_all is_space (chars t) ≡ is_blank_line us
  blank_all all = blank_literals (chars t) ∙ ap is_blank_line (sym (all_literal all))

  -- it is not, where an escape is
  escape_not : (c : ℕ) (os : List LineUnit) → s.others ≡ Escape c ∷ os → is_blank_line us ≡ false
  escape_not c os is = ap is_blank_line (s.units ∙ ap (λ z. literals s.front ++ z) is) ∙ list_all-append is_space_unit (literals s.front) (Escape c ∷ os) ∙ and_right (is_blank_line (literals s.front)) false refl

  pub blank_not : (n ≡ length t → ⊥) → false ≡ is_blank_line us
  blank_not some = go s.others refl s.escape
    where
      go : (os : List LineUnit) → s.others ≡ os → begins_escape os ≡ true → false ≡ is_blank_line us
      go [] is h = absurd (some (omega (arith, len_is, ap (λ z. bytes (line_text z)) is)))
      go (Escape c ∷ os) is h = sym (escape_not c os is)
      go (Literal c ∷ os) is h = absurd (false≢true h)
      go (LineEnd ∷ os) is h = absurd (false≢true h)

  -- a line of spaces is its literal characters
  pub blank_units : is_blank_line us ≡ true → us ≡ literals (chars t)
  blank_units b = go s.others refl s.escape
    where
      go : (os : List LineUnit) → s.others ≡ os → begins_escape os ≡ true → us ≡ literals (chars t)
      go [] is h = literal_units is
      go (Escape c ∷ os) is h = absurd (false≢true (sym (escape_not c os is) ∙ b))
      go (Literal c ∷ os) is h = absurd (false≢true h)
      go (LineEnd ∷ os) is h = absurd (false≢true h)

-- what a text begins with, if another part of it is as long
front_of : (p r f o : Text) → p ++ r ≡ f ++ o → bytes p ≤ bytes f → (q : Text) × (f ≡ p ++ q) × (r ≡ q ++ o)
front_of [] r f o e h = (f, refl, e)
front_of (c ∷ p) r [] o e h = absurd (omega (arith, (len_utf8_bounds c).0, h))
front_of (c ∷ p) r (d ∷ f) o e h =
    let same : c ≡ d = cc in
    let tails : p ++ r ≡ f ++ o = cc in
    let (q, is, rest) = front_of p r f o tails (omega (arith, h, ap bytes (ap (λ z. z ∷ []) same))) in
    (q, cc, rest)

-- of literal units only literal characters are a prefix
literals_of : (p f : Text) (o m : List LineUnit) → literals f ++ o ≡ literals p ++ m → begins_escape o ≡ true → (q : Text) × (f ≡ p ++ q)
literals_of [] f o m e h = (f, refl)
literals_of (c ∷ p) [] o m e h = absurd (false≢true (sym (ap begins_escape e) ∙ h))
literals_of (c ∷ p) (d ∷ f) o m e h =
    let same : d ≡ c = cc in
    let tails : literals f ++ o ≡ literals p ++ m = cc in
    let (q, is) = literals_of p f o m tails h in
    (q, cc)

module _ (t : List ℕ) (n : ℕ) (us : List LineUnit) (p : List ℕ) (text : IsUtf8 t) (prefix : IsUtf8 p) (s : Spells t n us) where
  prefix_in : (m : List LineUnit) → us ≡ literals (chars p) ++ m → (q : Text) × (s.front ≡ chars p ++ q)
  prefix_in m e = literals_of (chars p) s.front s.others m (sym s.units ∙ e) s.escape

  -- a prefix that is longer than the literal characters
  pub prefix_long : n < length p → (m : List LineUnit) → us ≡ literals (chars p) ++ m → ⊥
  prefix_long h m e = let (q, is) = prefix_in m e in omega (arith, h, s.len, ap bytes is, bytes-append (chars p) q, bytes-chars p prefix)

  -- or that is not there
  prefix_not : ((rest : List ℕ) → t ≡ p ++ rest → ⊥) → (m : List LineUnit) → us ≡ literals (chars p) ++ m → ⊥
  prefix_not none m e =
      let (q, is) = prefix_in m e in
      let rest = q ++ line_text s.others in
      let whole : chars t ≡ chars p ++ rest = s.is ∙ ap (λ z. z ++ line_text s.others) is ∙ append_assoc (chars p) q (line_text s.others) in
      none (encodes rest) (sym (encodes-chars t text) ∙ ap encodes whole ∙ encodes-append (chars p) rest ∙ ap (λ z. z ++ encodes rest) (encodes-chars p prefix))

  prefix_there : (rest : List ℕ) → t ≡ p ++ rest → length p ≤ n → (m : List LineUnit) × (us ≡ literals (chars p) ++ m) × (chars rest ≡ line_text m)
  prefix_there rest e h =
      let both : chars p ++ chars rest ≡ s.front ++ line_text s.others = sym (chars-append p rest prefix) ∙ ap chars (sym e) ∙ s.is in
      let (q, is, left) = front_of (chars p) (chars rest) s.front (line_text s.others) both (omega (arith, h, s.len, bytes-chars p prefix)) in (
        literals q ++ s.others,
        s.units ∙ ap (λ z. literals z ++ s.others) is ∙ ap (λ z. z ++ s.others) (literals-append (chars p) q) ∙ append_assoc (literals (chars p)) (literals q) s.others,
        left ∙ sym (line_text-append (literals q) s.others ∙ ap (λ z. z ++ line_text s.others) (literals_text q)),
      )

  pub prefix_found : length p ≤ n → (r : Option (Bor (List ℕ))) → MatchOption r (FindsTextPrefix p t None) (λ x. StripsPrefix (FindsTextPrefix p) t x.now)
      → MatchOption r ((m : List LineUnit) → us ≡ literals (chars p) ++ m → ⊥) (λ rest. (m : List LineUnit) × (us ≡ literals (chars p) ++ m) × (chars rest.now ≡ line_text m))
  prefix_found h None x = prefix_not (λ rest. x rest)
  prefix_found h (Some rest) x = let (k, there, is, few) = x in prefix_there rest.now (there.1 ∙ ap (λ z. p ++ z) (sym is)) h
