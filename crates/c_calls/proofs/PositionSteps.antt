-- Lines and columns of a text that grows by a character.
use Rattle.std.proofs.Common.{◌≡◌, ◌+◌, ◌++◌, ◌∷◌, [], ℕ, Bool, List, append_assoc, ap, ◌∙◌, refl, sym, subst, take, drop, length, true, false}
use Rattle.std.specs.Prelude.{Option, None, if◌then◌else◌, is_some}
use Rattle.std.proofs.lemmas.Bool.{and_parts, false≢true}
use Rattle.std.proofs.lemmas.List.{take-append-drop}
use Rattle.std.proofs.lemmas.Str.{IsCharBoundary-at_seam, chars-append, encodes-append, encodes-chars, scalars-chars}
use Rattle.std.specs.Str.{IsCharBoundary, IsUtf8, chars}
use lib.Utf8.{encodes, scalar, scalars}
use Rattle.kdl.specs.Words.{Text, bytes}
use Rattle.kdl_text.proofs.Looking.Texts.{bytes-chars, bytes-encodes}
use Rattle.kdl_text.specs.Chars.{begins, is_newline_char}
use Rattle.c_calls.specs.Internal.Places.{IsAfter, Moved, column_of, line_of}
use Rattle.c_calls.specs.Positions.{IsPosition, column_after, ends_newline, line_after}
use Rattle.c_calls.specs.declared.place.Place.{Place}

line_push_from : (n : ℕ) (s r : Text) (c : ℕ) → line_after n (s ++ c ∷ []) r ≡ (if ends_newline c r then line_after n s (c ∷ r) + 1 else line_after n s (c ∷ r))
line_push_from n [] r c = refl
line_push_from n (d ∷ s) r c =
    ap (λ (t : Text). line_after (if ends_newline d t then n + 1 else n) (s ++ c ∷ []) r) (append_assoc s (c ∷ []) r)
    ∙ line_push_from (if ends_newline d (s ++ c ∷ r) then n + 1 else n) s r c

pub line_push : (s r : Text) (c : ℕ) → line_after 1 (s ++ c ∷ []) r ≡ (if ends_newline c r then line_after 1 s (c ∷ r) + 1 else line_after 1 s (c ∷ r))
line_push s r c = line_push_from 1 s r c

column_push_from : (n : ℕ) (s r : Text) (c : ℕ) → column_after n (s ++ c ∷ []) r ≡ (if ends_newline c r then 1 else column_after n s (c ∷ r) + 1)
column_push_from n [] r c = refl
column_push_from n (d ∷ s) r c =
    ap (λ (t : Text). column_after (if ends_newline d t then 1 else n + 1) (s ++ c ∷ []) r) (append_assoc s (c ∷ []) r)
    ∙ column_push_from (if ends_newline d (s ++ c ∷ r) then 1 else n + 1) s r c

pub column_push : (s r : Text) (c : ℕ) → column_after 1 (s ++ c ∷ []) r ≡ (if ends_newline c r then 1 else column_after 1 s (c ∷ r) + 1)
column_push s r c = column_push_from 1 s r c

scalars_after : (xs ys : List ℕ) → scalars (xs ++ ys) ≡ true → scalars ys ≡ true
scalars_after [] ys h = h
scalars_after (x ∷ xs) ys h = scalars_after xs ys (and_parts (scalar x) (scalars (xs ++ ys)) h).1

-- an offset between characters is a boundary
pub boundary : (s : List ℕ) (offset : ℕ) (before after : Text) → IsUtf8 s → chars s ≡ before ++ after → offset ≡ bytes before → IsCharBoundary s offset
boundary s offset before after u whole there =
    let ok : scalars (before ++ after) ≡ true = subst (λ (t : Text). scalars t ≡ true) whole (scalars-chars s u) in
    let seam : s ≡ encodes before ++ encodes after = sym (encodes-chars s u) ∙ ap encodes whole ∙ encodes-append before after in
    subst (IsCharBoundary s) (sym (there ∙ bytes-encodes before)) (IsCharBoundary-at_seam s (encodes before) (encodes after) seam (after, (scalars_after before after ok, refl)))

feed_at : (l k : ℕ) (b : Bool) (r : Text) → Moved (record { line = l; column = k; returned = b }) 10 r (record { line = l + 1; column = 1; returned = false })
unfolding is_newline_char
feed_at l k true r = record { line = refl; column = refl }
feed_at l k false r = record { line = refl; column = refl }

-- a line feed
pub moved_feed : (p : Place) (r : Text) (c : ℕ) → c ≡ 10 → Moved p c r (record { line = p.line + 1; column = 1; returned = false })
moved_feed p r c e = subst (λ (d : ℕ). Moved p d r (record { line = p.line + 1; column = 1; returned = false })) (sym e) (feed_at p.line p.column p.returned r)

return_at : (p : Place) (r : Text) → Moved p 13 r (record { line = line_of p false; column = column_of p false + 1; returned = true })
unfolding is_newline_char
return_at p r = record { line = refl; column = refl }

-- a carriage return
pub moved_return : (p : Place) (r : Text) (c l k : ℕ) → c ≡ 13 → l ≡ line_of p false → k ≡ column_of p false → Moved p c r (record { line = l; column = k + 1; returned = true })
moved_return p r c l k e el ek =
    subst (λ (d : ℕ). Moved p d r (record { line = l; column = k + 1; returned = true })) (sym e)
    (subst (λ (m : ℕ). Moved p 13 r (record { line = m; column = k + 1; returned = true })) (sym el)
    (subst (λ (m : ℕ). Moved p 13 r (record { line = line_of p false; column = m + 1; returned = true })) (sym ek) (return_at p r)))

-- one character more
pub after_more : (s r : Text) (c : ℕ) (p q : Place) → Moved p c r q → IsAfter s (c ∷ r) p → IsAfter (s ++ c ∷ []) r q
after_more s r c p q m a = record {
  line = m.line ∙ ap (λ (n : ℕ). if ends_newline c r then n + 1 else n) a.line ∙ sym (line_push s r c);
  column = m.column ∙ ap (λ (n : ℕ). if ends_newline c r then 1 else n + 1) a.column ∙ sym (column_push s r c);
}

-- a text cut into two
pub position_at : (s b a : List ℕ) (offset line column : ℕ) (p : Place) (feed : Bool) → IsUtf8 b → s ≡ b ++ a → length b ≡ offset → ((r : Text) → IsAfter (chars b) r p) → begins 10 (chars a) ≡ feed
    → line ≡ line_of p feed → column ≡ column_of p feed → IsPosition (chars s) offset line column
position_at s b a offset line column p feed u whole len walked e l k = record {
  before = chars b;
  after = chars a;
  whole = ap chars whole ∙ chars-append b a u;
  there = sym (bytes-chars b u ∙ len);
  in_line = l ∙ ap (line_of p) (sym e) ∙ (walked (chars a)).line;
  in_column = k ∙ ap (column_of p) (sym e) ∙ (walked (chars a)).column;
}

pub cut : (s b a : List ℕ) (offset : ℕ) → b ≡ take offset s → a ≡ drop offset s → s ≡ b ++ a
cut s b a offset e f = sym (take-append-drop offset s) ∙ ap (λ (x : List ℕ). x ++ drop offset s) (sym e) ∙ ap (λ (x : List ℕ). b ++ x) (sym f)

pub not_there : {A : Type 0} (o : Option A) → o ≡ None → is_some o ≡ true → ⊥
not_there o e h = false≢true (sym (ap is_some e) ∙ h)
