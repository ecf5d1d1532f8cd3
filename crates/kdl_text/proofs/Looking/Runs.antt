-- Runs of characters of a class.
use Rattle.std.proofs.Common.{◌≡◌, ℕ, ◌+◌, ◌≤◌, List, [], ◌∷◌, ◌++◌, Bool, true, false, length, refl, ap, sym, ◌∙◌, arith, append_assoc, length-append, not, ◌&&◌}
use Rattle.std.specs.Prelude.{nat_lt, Some, None}
use Rattle.std.proofs.lemmas.Bool.{and_parts}
use Rattle.std.proofs.lemmas.List.Folds.{list_all-append}
use Rattle.std.proofs.lemmas.Str.{len_utf8_bounds}
use Rattle.std.specs.List.{list_all}
use Rattle.std.specs.Str.{chars}
use Rattle.std.specs.Char.{len_utf8}
use Rattle.kdl_text.specs.Chars.{Text, starts}
use Rattle.kdl_text.specs.Internal.Here.{first, AsciiOf, RunOf}
use Rattle.kdl_text.specs.Spans.{bytes}
use Rattle.kdl_text.proofs.Looking.MovesJoin.{bytes-append}

-- the run read so far, after which no ASCII character of the class comes
pub record SoFar (p : ℕ → Bool) (old new : List ℕ) (count : ℕ) : Type 0 where
  pub run : Text
  pub text : chars old ≡ run ++ chars new
  pub all : list_all p run ≡ true
  pub beyond : starts (λ c. nat_lt c 128 && p c) (chars new) ≡ false
  pub len : length old ≡ bytes run + length new
  pub count_is : count ≡ length run

pub run_begins : (p : ℕ → Bool) (s r : List ℕ) (n : ℕ) → AsciiOf p s r n → SoFar p s r n
run_begins p s r n i = record { run = i.run; text = i.text; all = i.all; beyond = i.stops; len = omega (arith, i.len, i.bytes_is); count_is = sym i.count_is }

pub run_turn : (p : ℕ → Bool) (old s t r : List ℕ) (c n m : ℕ) → SoFar p old s n → chars s ≡ c ∷ chars t → length s ≡ len_utf8 c + length t → (not (nat_lt c 128) && p c) ≡ true → AsciiOf p t r m → SoFar p old r (n + (1 + m))
run_turn p old s t r c n m i e l h a = record {
  run = i.run ++ c ∷ a.run;
  text = i.text ∙ ap (λ z. i.run ++ z) (e ∙ ap (λ z. c ∷ z) a.text) ∙ sym (append_assoc i.run (c ∷ a.run) (chars r));
  all = rw (list_all-append p i.run (c ∷ a.run), i.all, (and_parts (not (nat_lt c 128)) (p c) h).1, a.all) refl;
  beyond = a.stops;
  len = omega (arith, i.len, l, a.len, a.bytes_is, bytes-append i.run (c ∷ a.run));
  count_is = omega (arith, i.count_is, a.count_is, length-append i.run (c ∷ a.run));
}

pub length-bytes : (s : Text) → length s ≤ bytes s
length-bytes [] = omega arith
length-bytes (c ∷ s) = omega (arith, (len_utf8_bounds c).0, length-bytes s)

pub run_counts : (p : ℕ → Bool) (old s : List ℕ) (n : ℕ) → SoFar p old s n → n ≤ length old
run_counts p old s n i = omega (arith, i.len, i.count_is, length-bytes i.run)

neither : (a b : Bool) → (not a && b) ≡ false → (a && b) ≡ false → b ≡ false
neither true b h k = k
neither false b h k = h

stops_at : (p : ℕ → Bool) (s : Text) (c : ℕ) (r : Text) → s ≡ c ∷ r → (not (nat_lt c 128) && p c) ≡ false → starts (λ x. nat_lt x 128 && p x) s ≡ false → starts p s ≡ false
stops_at p s c r e h k = rw e (neither (nat_lt c 128) (p c) h (rw e at k))

pub run_stops : (p : ℕ → Bool) (old s r : List ℕ) (c n : ℕ) → SoFar p old s n → chars s ≡ c ∷ chars r → (not (nat_lt c 128) && p c) ≡ false → RunOf p old s n
run_stops p old s r c n i e h = record { run = i.run; text = i.text; all = i.all; stops = stops_at p _ c _ e h i.beyond; len = i.len; count_is = i.count_is }

pub run_ends : (p : ℕ → Bool) (old s : List ℕ) (n : ℕ) → SoFar p old s n → chars s ≡ [] → RunOf p old s n
run_ends p old s n i e = record { run = i.run; text = i.text; all = i.all; stops = ap (starts p) e; len = i.len; count_is = i.count_is }

ascii_run : (p : ℕ → Bool) (old s : List ℕ) (n : ℕ) → AsciiOf p old s n → starts p (chars s) ≡ false → RunOf p old s n
ascii_run p old s n i h = record { run = i.run; text = i.text; all = i.all; stops = h; len = omega (arith, i.len, i.bytes_is); count_is = sym i.count_is }

-- where ASCII characters of the class reach the end of the text
pub ascii_ends : (p : ℕ → Bool) (old s : List ℕ) (n : ℕ) → AsciiOf p old s n → None ≡ first (chars s) → RunOf p old s n
ascii_ends p old s n i h = ascii_run p old s n i (go (chars s) h)
  where
    go : (q : Text) → None ≡ first q → starts p q ≡ false
    go [] h = refl
    go (c ∷ q) h = cc

-- or another ASCII character
pub ascii_stops : (p : ℕ → Bool) (old s : List ℕ) (n c : ℕ) → AsciiOf p old s n → Some c ≡ first (chars s) → nat_lt c 128 ≡ true → RunOf p old s n
ascii_stops p old s n c i h l = ascii_run p old s n i (go (chars s) h i.stops)
  where
    go : (q : Text) → Some c ≡ first q → starts (λ x. nat_lt x 128 && p x) q ≡ false → starts p q ≡ false
    go [] h k = refl
    go (d ∷ q) h k =
        let same : c ≡ d = cc in
        neither (nat_lt d 128) (p d) (ap (λ b. not b && p d) (ap (λ x. nat_lt x 128) (sym same) ∙ l)) k

-- a run of characters of one class, from its start to its end
pub ruleset runs = (run_begins, run_turn, run_stops, run_ends, run_counts)
