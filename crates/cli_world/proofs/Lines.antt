-- The lines on standard error.
use Rattle.std.proofs.Common.{◌≡◌, ◌∙◌, ◌<◌, ℕ, List, [], ◌∷◌, ◌++◌, Err, Ok, Result, ap, append_assoc, chars, codes, get_or, length, refl, subst, sym, take}
use Rattle.std.proofs.KnownBytes.{Appends-trans}
use Rattle.std.proofs.lemmas.List.{append-nil}
use Rattle.std.proofs.lemmas.Str.{encodes-append}
use Rattle.std.specs.Prelude.{MatchResult, encode_utf8_all, flat_map}
use Rattle.kdl_report.specs.Shown.{shown, shown_bytes, shown_char}
use Rattle.watched.proofs.WriteSteps.{cut_after, stopped}
use Rattle.cli_world.proofs.Acting.{appends_nothing}
use Rattle.watched.specs.Streams.{Grows, IsCut, Stream}

-- the bytes of what is shown for a character
abbrev pub char_bytes : ℕ → List ℕ
char_bytes c = encode_utf8_all (shown_char c)

-- what is shown for a text, character by character
chars_shown : (t : List ℕ) → flat_map char_bytes t ≡ encode_utf8_all (shown t)
chars_shown [] = refl
chars_shown (c ∷ t) = ap (λ z. char_bytes c ++ z) (chars_shown t) ∙ sym (encodes-append (shown_char c) (shown t))

pub name_shown : (name t : List ℕ) → t ≡ chars name → flat_map char_bytes t ≡ shown_bytes name
name_shown name t e = ap (flat_map char_bytes) e ∙ chars_shown (chars name)

-- the characters so far are written, and then only a prefix of the next one
pub name_cut : (name before : List ℕ) (c : ℕ) (part : List ℕ) (old mid new : Stream) → before ≡ take (length before) (chars name) → (length before < length (chars name)) × (c ≡ get_or (chars name) (length before) c)
    → part ≡ char_bytes c → Grows (flat_map char_bytes before) old mid → IsCut part mid new → IsCut (shown_bytes name) old new
name_cut name before c part old mid new is (within, at) e written cut =
    let front = subst (λ t. Grows (flat_map char_bytes t) old mid) is written in
    subst (λ t. IsCut t old new) (chars_shown (chars name))
    (stopped char_bytes (chars name) (length before) c old mid new within at front (subst (λ t. IsCut t mid new) e cut))

-- a text is written, and then another one
pub grows_then : (a b : List ℕ) (old mid new : Stream) → Grows a old mid → Grows b mid new → Grows (a ++ b) old new
grows_then a b old mid new (p, e) (q, f) = (Appends-trans old.bytes mid.bytes new.bytes a b p q, f ∙ e)

-- nothing is written
grows_nothing : (s : Stream) → Grows [] s s
grows_nothing s = (appends_nothing s.bytes, refl)

-- the line on what is wrong with a file, from its pieces
abbrev pub line : (start name what : List ℕ) → List ℕ
line start name what = start ++ name ++ codes ": " ++ what ++ codes "\n"

abbrev pub tail : List ℕ → List ℕ
tail what = codes ": " ++ (what ++ (codes "\n" ++ []))

in_pieces : (start name what : List ℕ) → line start name what ≡ start ++ (name ++ tail what)
in_pieces start name what = regroup start name (codes ": ") what (codes "\n")
  where
    regroup : (a b c d e : List ℕ) → (((a ++ b) ++ c) ++ d) ++ e ≡ a ++ (b ++ (c ++ (d ++ (e ++ []))))
    regroup a b c d e = simp (append_assoc, append-nil)

-- its pieces are written, or a write fails before
pub cut_at_start : (start name what : List ℕ) (old new : Stream) → IsCut start old new → IsCut (line start name what) old new
cut_at_start start name what old new cut = cut_after [] start (name ++ tail what) (line start name what) old old new (in_pieces start name what) (grows_nothing old) cut

pub cut_at_name : (start name what : List ℕ) (old mid new : Stream) → Grows start old mid → IsCut name mid new → IsCut (line start name what) old new
cut_at_name start name what old mid new before cut = cut_after start name (tail what) (line start name what) old mid new (in_pieces start name what) before cut

pub line_written : {T E : Type 0} (r : Result T E) (start name what : List ℕ) (old a b new : Stream) → Grows start old a → Grows name a b → MatchResult r (λ _. Grows (tail what) b new) (λ _. IsCut (tail what) b new)
    → MatchResult r (λ _. Grows (line start name what) old new) (λ _. IsCut (line start name what) old new)
line_written (Ok u) start name what old a b new g h last =
    subst (λ t. Grows t old new) (sym (in_pieces start name what)) (grows_then start (name ++ tail what) old a new g (grows_then name (tail what) a b new h last))
line_written (Err u) start name what old a b new g h last =
    let whole : line start name what ≡ (start ++ name) ++ (tail what ++ []) =
    in_pieces start name what ∙ (sym (append_assoc start name (tail what)) ∙ ap (λ t. (start ++ name) ++ t) (sym (append-nil (tail what)))) in
    cut_after (start ++ name) (tail what) [] (line start name what) old b new whole (grows_then start name old a b g h) last
