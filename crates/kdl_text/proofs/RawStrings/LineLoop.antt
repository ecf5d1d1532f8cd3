-- The units of a raw string of one line.
use Rattle.std.proofs.Common.{◌≡◌, ℕ, Bool, true, false, not, ◌||◌, ◌==◌, List, [], ◌∷◌, ◌++◌, refl, sym, ◌∙◌, subst}
use Rattle.std.proofs.lemmas.Bool.{and_parts, false≢true}
use Rattle.std.specs.List.{list_all}
use Rattle.kdl_text.specs.Dedent.{LineUnit, LineEnd}
use Rattle.kdl_text.specs.Chars.{Text, times, is_raw, is_unquoted, is_newline_char, is_banned}
use Rattle.kdl_text.specs.Raw.{closing, literals, char, line, RawUnits, none, more, RawContent, content}
use Rattle.kdl_text.proofs.RawStrings.RawUnique.{goes_raw, raw_ends}

either : (x n b : Bool) → not ((x || n) || b) ≡ true → (x ≡ false) × (not (n || b) ≡ true)
either true n b h = absurd (false≢true h)
either false n b h = (refl, h)

unquoted_parts : (c : ℕ) → is_unquoted c ≡ true → ((c == 34) ≡ false) × (is_raw c ≡ true)
unfolding is_unquoted is_raw
unquoted_parts c h = either (c == 34) (is_newline_char c) (is_banned c) h

pub unquoted_pass : (q run t : Text) → list_all is_unquoted run ≡ true → RawUnits (34 ∷ q) (run ++ t) t (literals run)
unquoted_pass q [] t h = none
unquoted_pass q (c ∷ run) t h =
    let (here, tail) = and_parts (is_unquoted c) _ h in
    let (ne, raw) = unquoted_parts c here in
    more (char (rw ne refl) raw) (unquoted_pass q run t tail)

pub literals_same : (v w : Text) → literals v ≡ literals w → v ≡ w
literals_same [] [] e = refl
literals_same [] (c ∷ w) e = absurd cc
literals_same (c ∷ v) [] e = absurd cc
literals_same (c ∷ v) (d ∷ w) e =
    let head : c ≡ d = cc in
    let tails : literals v ≡ literals w = cc in
    let rest = literals_same v w tails in
    cc

no_line_end : (w x : Text) (us : List LineUnit) → literals w ≡ literals x ++ (LineEnd ∷ us) → ⊥
no_line_end [] [] us e = cc
no_line_end [] (c ∷ x) us e = cc
no_line_end (c ∷ w) [] us e = cc
no_line_end (c ∷ w) (d ∷ x) us e = let tails : literals w ≡ literals x ++ (LineEnd ∷ us) = cc in no_line_end w x us tails

-- up to the closing
pub line_ends : (n : ℕ) (f m d p : Text) → RawUnits (closing 1 n) f m (literals p) → m ≡ closing 1 n ++ d
    → RawContent (closing 1 n) f d (literals p) × ((r w : Text) → RawContent (closing 1 n) f r (literals w) → (r ≡ d) × (w ≡ p))
line_ends n f m d p is here =
    let (found, only) = raw_ends (times n 35) f m d (literals p) is here in
    (found, λ r w z. let (ends, us) = only r (literals w) z in (ends, literals_same w p us))

-- at a character that may not occur there
pub line_stuck : (n c : ℕ) (f a b p : Text) → RawUnits (closing 1 n) f a (literals p) → a ≡ c ∷ b → (c ≡ 34 → ⊥) → is_raw c ≡ false → (r w : Text) → RawContent (closing 1 n) f r (literals w) → ⊥
line_stuck n c f a b p is t ne bad r w x =
    let (v, e, y) = (goes_raw is).back r (literals w) x in
    stuck v e (subst (λ z. RawContent (closing 1 n) z r v) t y)
  where
    stuck : (v : List LineUnit) → literals w ≡ literals p ++ v → RawContent (closing 1 n) (c ∷ b) r v → ⊥
    stuck v e (content none h) = ne cc
    stuck v e (content (more (char a g) js) h) = false≢true (sym bad ∙ g)
    stuck v e (content (more {us = us} (line g) js) h) = no_line_end w p us e
