-- What the readers of PATHs return.
use Rattle.std.proofs.Common.{◌≡◌, ℕ, zero, suc, ◌<◌, ◌^◌, Bool, [], ◌∷◌, ◌++◌, List, true, false, map, length, refl, sym, ap, ◌∙◌, subst, arith, ◌==◌, ◌||◌, ◌⊎◌, append_assoc}
use Rattle.std.proofs.lemmas.Bool.{and_parts}
use Rattle.std.proofs.lemmas.List.{append_cancel_right}
use Rattle.std.proofs.lemmas.Str.{encodes-chars, encodes-IsAscii}
use Rattle.std.proofs.lemmas.Str.Parse.{IsDigitsTest, numerals_by_value, parse_digits}
use Rattle.std.specs.Int.{IsInRange}
use Rattle.std.specs.List.{list_all}
use Rattle.std.specs.Prelude.{IfOk, Some, None, Result, Ok, Err}
use Rattle.std.specs.Result.{IsErrAnd, OkIff, result_ok}
use Rattle.std.specs.Str.{IsAscii, IsUtf8, chars}
use Rattle.std.specs.Str.Parse.{ParsesUnsigned, digits_value}
use Rattle.kdl_text.specs.Bare.{BareString}
use Rattle.kdl_text.specs.Chars.{Text, begins, begins_two, starts, is_digit, is_space, is_newline_char, is_banned, is_punctuation, is_identifier_char}
use Rattle.kdl_text.specs.Internal.Here.{Ate, Here, Took, first, looked, sliced}
use Rattle.kdl_text.specs.Internal.Reading.{Moves}
use Rattle.kdl_text.specs.MultiLine.{IsQuoted}
use Rattle.kdl_text.specs.Raw.{IsRaw}
use Rattle.kdl_text.specs.Spans.{bytes}
use Rattle.kdl_text.specs.Strings.{Run}
use Rattle.kdl_text.specs.declared.strings.StringFailure.{StringFailure}
use Rattle.kdl_text.specs.declared.strings.StringFailure.TheVariants.{Memory as NoMemory, Fault as StringFault}
use Rattle.kdl_text.proofs.Looking.MovesJoin.{bytes-append, stays, moves_then, moves_one, moves_stayed, stayed_looked}
use Rattle.kdl_text.proofs.Quoted.BareReads.{bare_begins, bare_det}
use Rattle.kdl_text.proofs.Quoted.StringUnique.{is_quoted_begins, is_raw_begins}
use Rattle.kdl_text.proofs.Quoted.UnitUnique.{run_same}
use Rattle.kdl_value.specs.Tree.{text_of}
use Rattle.kdl_syntax.specs.Pieces as piece
use Rattle.kdl_syntax.specs.Pieces.{StringPiece}
use Rattle.kdl_syntax.proofs.Lexing.StringUnique.{begins_piece, string_begins, quote_identifier, quote_sign, sign_identifier}
use Rattle.kdl_path.specs.PathText.{AfterStep, IsIndex, IsName, IsPath, IsStep, IsTarget, PathData, StepData, TargetData, argument, is_mark, node, property, step_says, target_says}
use Rattle.kdl_path.specs.Internal.PathReading.{AteDigit, AteSlash, IsEnd, IsPlace, Nothing, NumberOf, OneChar, Reads, StepsSoFar, StringFails, TargetRest, Whole, only_target}
use Rattle.kdl_path.specs.declared.path.Target.{Target}
use Rattle.kdl_path.specs.declared.path.Step.{Step}
use Rattle.kdl_path.proofs.PathTexts.{document_only, first_step, index_det, name_det, no_more_step, no_path, one_more_step, path_ends, path_only, step_no_key, target_det}
use Rattle.kdl_path.specs.declared.path.PathFailure.{PathFailure}
use Rattle.kdl_path.specs.declared.path.PathFailure.TheVariants.{Syntax, Memory}
use Rattle.kdl_path.specs.declared.path.PathFault.{PathFault}

-- places
pub place_on : {a b : Here} {i : ℕ} → Moves a b → IsPlace b i → IsPlace a i
place_on {a = a} {b = b} m (p, q, e, f) = (
  m.piece.0 ++ p,
  q,
  m.piece.1 ∙ ap (λ z. m.piece.0 ++ z) e ∙ sym (append_assoc m.piece.0 p q),
  omega (arith, f, m.at, ap bytes m.piece.1, bytes-append m.piece.0 b.rest, bytes-append m.piece.0 p),
)

pub no_read : {A B : Type 0} {X : Text → Text → B → Type 0} (f : A → B) (e : PathFault) (i : ℕ) (a b : Here) → i ≡ a.at → ((r : Text) (y : B) → X a.rest r y → ⊥) → Moves a b → Reads X f (Err (Syntax e i)) a b
no_read f e i a b h n m = record { returns = (n, ([], a.rest, refl, omega (arith, h))); moves = m }

-- a piece that was not read leaves a larger one unread, as `?` passes it on
pub passed_on : {A B C D : Type 0} {X : Text → Text → B → Type 0} {Y : Text → Text → D → Type 0} {f : A → B} (g : C → D) (o : Result C PathFailure) (e : PathFailure) {a b : Here} (c d : Here) → IsErrAnd o (λ x. x ≡ e) → Reads X f (Err e) a b → Moves c a → Moves c d
    → (((r : Text) (y : B) → X a.rest r y → ⊥) → (r : Text) (y : D) → Y c.rest r y → ⊥) → Reads Y g o c d
passed_on g (Ok x) e c d i h l m k = absurd i
passed_on {X = X} {Y = Y} {f = f} g (Err x) e {a = a} {b = b} c d i h l m k = subst (λ z. Reads Y g (Err z) c d) (sym i) (go e h)
  where
    go : (e : PathFailure) → Reads X f (Err e) a b → Reads Y g (Err e) c d
    go (Syntax v j) h = record { returns = (k h.returns.0, place_on l h.returns.1); moves = m }
    go Memory h = record { returns = tt; moves = m }

-- what was read after a look is what begins before it
pub after_look : {A B : Type 0} {X : Text → Text → B → Type 0} (says : A → B) (o : Result A PathFailure) (a b d : Here) → b ≡ looked a → Reads X says o b d → Reads X says o a d
after_look {A = A} {X = X} says o a b d e h = go o (subst (λ z. Reads X says o z d) e h)
  where
    go : (o : Result A PathFailure) → Reads X says o (looked a) d → Reads X says o a d
    go (Ok x) h = record { returns = h.returns; moves = moves_then (moves_stayed (stayed_looked a (looked a) refl)) h.moves }
    go (Err (Syntax f i)) h = record { returns = h.returns; moves = moves_then (moves_stayed (stayed_looked a (looked a) refl)) h.moves }
    go (Err Memory) h = record { returns = tt; moves = moves_then (moves_stayed (stayed_looked a (looked a) refl)) h.moves }

pub moves_ate : (c : ℕ) (r : Bool) (a b : Here) → Ate c r a b → Moves a b
moves_ate c true a b h = moves_one h
moves_ate c false a b h = moves_stayed (stayed_looked a b h.1)

pub took_ok : (c : ℕ) (a b : Here) → Took (Some c) a b → Reads (OneChar c) (λ u. u) (Ok tt) a b
took_ok c a b h = record { returns = h.0; moves = moves_one h }

-- names
pub bare_is : (a m n d v : Text) → m ≡ a → d ≡ n → starts (λ c. (c == 34 || c == 35) || c == 64) a ≡ false → BareString m n v → (n ≡ []) ⊎ (starts is_mark n ≡ true) → IsName a d v
bare_is a m n d v e f h b k = subst (λ z. IsName z d v) e (subst (λ z. IsName m z v) (sym f) (record { string = piece.bare b; no_key = no_key m (subst (λ z. starts (λ c. (c == 34 || c == 35) || c == 64) z ≡ false) (sym e) h); ends = λ c. k }))
  where
    no_key : (s : Text) → starts (λ c. (c == 34 || c == 35) || c == 64) s ≡ false → begins 64 s ≡ false
    no_key [] h = refl
    no_key (c ∷ s) h = grind arith

pub no_bare : (a m : Text) → m ≡ a → starts (λ c. (c == 34 || c == 35) || c == 64) a ≡ false → ((r w : Text) → BareString m r w → ⊥) → (r v : Text) → IsName a r v → ⊥
no_bare a m e h n r v x = go x.string
  where
    quote : (s : Text) → starts (λ c. (c == 34 || c == 35) || c == 64) s ≡ false → starts (λ c. c == 34) s ≡ true → ⊥
    quote [] h k = cc
    quote (c ∷ s) h k = grind arith

    sign : (s : Text) → starts (λ c. (c == 34 || c == 35) || c == 64) s ≡ false → starts (λ c. c == 35) s ≡ true → ⊥
    sign [] h k = cc
    sign (c ∷ s) h k = grind arith

    go : StringPiece a r v → ⊥
    go (piece.bare b) = n r v (subst (λ z. BareString z r v) (sym e) b)
    go (piece.quoted q) = quote a h (is_quoted_begins q)
    go (piece.raw q) = sign a h (is_raw_begins q)

pub no_bare_end : (a m n v : Text) → m ≡ a → BareString m n v → ((n ≡ []) ⊎ (starts is_mark n ≡ true) → ⊥) → (r w : Text) → IsName a r w → ⊥
no_bare_end a m n v e b k r w x = go x.string x.ends
  where
    c : BareString a n v
    c = subst (λ z. BareString z n v) e b

    go : StringPiece a r w → (BareString a r w → (r ≡ []) ⊎ (starts is_mark r ≡ true)) → ⊥
    go (piece.bare d) h = k (subst (λ z. (z ≡ []) ⊎ (starts is_mark z ≡ true)) (sym (bare_det c d).0) (h d))
    go (piece.quoted q) h = quote_identifier a (is_quoted_begins q) (bare_begins c)
    go (piece.raw q) h = sign_identifier a (is_raw_begins q) (bare_begins c)

pub quoted_is : (s r v : Text) → IsQuoted s r v → IsName s r v
quoted_is s r v q = record { string = piece.quoted q; no_key = no_key s (is_quoted_begins q); ends = λ b. absurd (quote_identifier s (is_quoted_begins q) (bare_begins b)) }
  where
    no_key : (s : Text) → starts (λ c. c == 34) s ≡ true → begins 64 s ≡ false
    no_key [] h = refl
    no_key (c ∷ s) h = grind arith

pub raw_is : (s r v : Text) → IsRaw s r v → IsName s r v
raw_is s r v q = record { string = piece.raw q; no_key = no_key s (is_raw_begins q); ends = λ b. absurd (sign_identifier s (is_raw_begins q) (bare_begins b)) }
  where
    no_key : (s : Text) → starts (λ c. c == 35) s ≡ true → begins 64 s ≡ false
    no_key [] h = refl
    no_key (c ∷ s) h = grind arith

first_is : (s : Text) (c : ℕ) → first s ≡ Some c → starts (λ d. d == c) s ≡ true
first_is [] c h = cc
first_is (d ∷ s) c h = grind arith

pub quoted_of : (s r v : Text) → first s ≡ Some 34 → IsName s r v → IsQuoted s r v
quoted_of s r v h x = go x.string
  where
    go : StringPiece s r v → IsQuoted s r v
    go (piece.bare b) = absurd (quote_identifier s (first_is s 34 h) (bare_begins b))
    go (piece.quoted q) = q
    go (piece.raw q) = absurd (quote_sign s (first_is s 34 h) (is_raw_begins q))

pub raw_of : (s r v : Text) → first s ≡ Some 35 → IsName s r v → IsRaw s r v
raw_of s r v h x = go x.string
  where
    go : StringPiece s r v → IsRaw s r v
    go (piece.bare b) = absurd (sign_identifier s (first_is s 35 h) (bare_begins b))
    go (piece.quoted q) = absurd (quote_sign s (is_quoted_begins q) (first_is s 35 h))
    go (piece.raw q) = q

pub string_unread : (fail : StringFailure) (e : PathFailure) (i : ℕ) (a d : Here) → StringFails fail i e → i ≡ a.at → ((r v : Text) → IsName a.rest r v → fail ≡ NoMemory) → Moves a d → Reads IsName text_of (Err e) a d
string_unread NoMemory e i a d h k n m = subst (λ z. Reads IsName text_of (Err z) a d) (sym h) (record { returns = tt; moves = m })
string_unread (StringFault f) e i a d (g, h) k n m = subst (λ z. Reads IsName text_of (Err z) a d) (sym h) (no_read text_of g i a d k (λ r v x. let y = n r v x in absurd cc) m)

slash_no_piece : begins_piece 47 ≡ false
unfolding is_identifier_char is_space is_newline_char is_banned is_punctuation
slash_no_piece = refl

pub no_slash_name : (s r v : Text) → IsName (47 ∷ s) r v → ⊥
no_slash_name s r v n = let f : begins_piece 47 ≡ true = string_begins n.string in let g = slash_no_piece in absurd cc

pub no_slash : (s r : Text) (x : StepData) → IsStep (47 ∷ s) r x → ⊥
no_slash s r x (IsStep.plain n h) = no_slash_name s r _ n
no_slash s r x (IsStep.indexed n h) = no_slash_name s _ _ n

-- digits
pub record DigitsSoFar (a b : Here) : Type 0 where
  pub run : Text
  pub text : a.rest ≡ run ++ b.rest
  pub all : list_all is_digit run ≡ true
  pub moves : Moves a b

pub digits_begin : (a : Here) → DigitsSoFar a a
digits_begin a = record { run = []; text = refl; all = refl; moves = stays a }

one_more : (run : Text) (c : ℕ) → list_all is_digit run ≡ true → is_digit c ≡ true → list_all is_digit (run ++ c ∷ []) ≡ true
one_more [] c h k = cc
one_more (d ∷ run) c h k = let (l, m) = and_parts (is_digit d) (list_all is_digit run) h in let n = one_more run c m k in cc

pub one_more_digit : (a b d : Here) → DigitsSoFar a b → AteDigit true b.rest d.rest → Moves b d → DigitsSoFar a d
one_more_digit a b d h (c, k, e) m = record {
  run = h.run ++ c ∷ [];
  text = h.text ∙ ap (λ z. h.run ++ z) e ∙ sym (append_assoc h.run (c ∷ []) d.rest);
  all = one_more h.run c h.all k;
  moves = moves_then h.moves m;
}

pub all_digits : (a b d : Here) → DigitsSoFar a b → AteDigit false b.rest d.rest → Run is_digit a.rest d.rest
all_digits a b d h (k, e) = record { run = h.run; text = h.text ∙ ap (λ z. h.run ++ z) (sym e); all = h.all; stops = subst (λ z. starts is_digit z ≡ false) (sym e) k }

pub digit_shorter : (s r : Text) → AteDigit true s r → length r < length s
digit_shorter s r (c, k, e) = omega (arith, ap length e)

-- the digits that were sliced
pub sliced_run : (s r w : Text) (h : Run is_digit s r) → s ≡ w ++ r → w ≡ h.run
sliced_run s r w h e = append_cancel_right w h.run r (sym e ∙ h.text)

starts_on : (w r : Text) → starts is_digit w ≡ true → starts is_digit (w ++ r) ≡ true
starts_on [] r h = absurd cc
starts_on (c ∷ w) r h = h

pub index_is : (s r w : Text) (i : ℕ) → Run is_digit s r → s ≡ w ++ r → NumberOf w (Some i) → IsIndex s r i
index_is s r w i h e (k, v, f) =
    let g = sliced_run s r w h e in
    record { digits = h; some = subst (λ z. starts is_digit z ≡ true) (sym e) (starts_on w r k); value = v ∙ ap (digits_value 10) g; fits = f }

pub no_index : (s r w : Text) → Run is_digit s r → s ≡ w ++ r → NumberOf w None → (t : Text) (i : ℕ) → IsIndex s t i → ⊥
no_index s r w h e n t i x =
    let g : x.digits.run ≡ w = (run_same is_digit x.digits.run h.run t r x.digits.all h.all x.digits.stops h.stops (sym x.digits.text ∙ h.text)).0 ∙ sym (sliced_run s r w h e) in
    n (front w r (subst (λ z. starts is_digit z ≡ true) e x.some) h.stops) (subst (λ z. digits_value 10 z < 2 ^ 64) g (subst (λ z. z < 2 ^ 64) x.value x.fits))
  where
    front : (w r : Text) → starts is_digit (w ++ r) ≡ true → starts is_digit r ≡ false → starts is_digit w ≡ true
    front [] r h k = absurd cc
    front (c ∷ w) r h k = h

digits_test : IsDigitsTest (λ ds. list_all is_digit ds ≡ true)
digits_test = record { empty = refl; parts = parts; more = more }
  where
    parts : (c : ℕ) (cs : List ℕ) → list_all is_digit (c ∷ cs) ≡ true → IsInRange 48 57 c × (list_all is_digit cs ≡ true)
    parts c cs h = let (k, l) = and_parts (is_digit c) (list_all is_digit cs) h in ((grind arith, grind arith), l)

    more : (c : ℕ) (cs : List ℕ) → IsInRange 48 57 c → list_all is_digit cs ≡ true → list_all is_digit (c ∷ cs) ≡ true
    more c cs k h = let l : is_digit c ≡ true = grind arith in cc

ascii : (ds : Text) → list_all is_digit ds ≡ true → IsAscii ds
ascii [] h i = omega arith
ascii (c ∷ ds) h zero = let (k, l) = and_parts (is_digit c) (list_all is_digit ds) h in grind arith
ascii (c ∷ ds) h (suc i) = let (k, l) = and_parts (is_digit c) (list_all is_digit ds) h in ascii ds l i

pub number_is : {E : Type 0} (bs : List ℕ) (o : Result ℕ E) → IsUtf8 bs → list_all is_digit (chars bs) ≡ true → ParsesUnsigned 64 10 bs o → OkIff o ((0 < length (chars bs)) × (digits_value 10 (chars bs) < 2 ^ 64)) (digits_value 10 (chars bs))
number_is bs o u h p =
    let e : bs ≡ chars bs = sym (encodes-chars bs u) ∙ encodes-IsAscii (chars bs) (ascii (chars bs) h) in
    parse_digits (numerals_by_value _ digits_test) 64 (chars bs) o (subst (λ z. ParsesUnsigned 64 10 z o) e p) h

pub number_found : {E : Type 0} (bs : List ℕ) (o : Result ℕ E) → IsUtf8 bs → list_all is_digit (chars bs) ≡ true → ParsesUnsigned 64 10 bs o → NumberOf (chars bs) (result_ok o)
number_found bs o u h p = go o (chars bs) h (number_is bs o u h p)
  where
    some : (w : Text) → 0 < length w → list_all is_digit w ≡ true → starts is_digit w ≡ true
    some [] l k = absurd (omega (arith, l))
    some (c ∷ w) l k = (and_parts (is_digit c) (list_all is_digit w) k).0

    long : (w : Text) → starts is_digit w ≡ true → 0 < length w
    long [] k = absurd cc
    long (c ∷ w) k = omega arith

    go : {E : Type 0} (o : Result ℕ E) (w : Text) → list_all is_digit w ≡ true → OkIff o ((0 < length w) × (digits_value 10 w < 2 ^ 64)) (digits_value 10 w) → NumberOf w (result_ok o)
    go (Ok i) w k h = (some w h.0.0 k, h.1, subst (λ z. z < 2 ^ 64) (sym h.1) h.0.1)
    go (Err e) w k h = λ a b. h (long w a, b)

-- targets
pub argument_is : (s t r : Text) (i : ℕ) → IsIndex s t i → Nothing t r tt → Whole (TargetRest 35) s r (argument i)
argument_is s t r i x (e, f) = (IsTarget.nth (subst (λ z. IsIndex s z i) e x), f)

pub no_argument : (s : Text) → ((r : Text) (i : ℕ) → IsIndex s r i → ⊥) → (r : Text) (y : TargetData) → Whole (TargetRest 35) s r y → ⊥
no_argument s n r y (w, e) = go w
  where
    go : {y : TargetData} → IsTarget (35 ∷ s) y → ⊥
    go (IsTarget.nth a) = n _ _ a

pub no_argument_end : (s t : Text) (i : ℕ) → IsIndex s t i → ((r : Text) (u : Unit {0}) → Nothing t r u → ⊥) → (r : Text) (y : TargetData) → Whole (TargetRest 35) s r y → ⊥
no_argument_end s t i x n r y (w, e) = go w
  where
    go : {y : TargetData} → IsTarget (35 ∷ s) y → ⊥
    go (IsTarget.nth {i = j} a) = n [] tt ((index_det s t [] i j x a).0, refl)

pub property_is : (s t r v : Text) → IsName s t v → Nothing t r tt → Whole (TargetRest 64) s r (property v)
property_is s t r v x (e, f) = (IsTarget.key (subst (λ z. IsName s z v) e x), f)

pub no_property_end : (s t v : Text) → IsName s t v → ((r : Text) (u : Unit {0}) → Nothing t r u → ⊥) → (r : Text) (y : TargetData) → Whole (TargetRest 64) s r y → ⊥
no_property_end s t v x n r y (w, e) = go w
  where
    go : {y : TargetData} → IsTarget (64 ∷ s) y → ⊥
    go (IsTarget.key {v = u} a) = n [] tt ((name_det s t [] v u x a).0, refl)

-- what was read after the characters before it
pub read_on : {A B : Type 0} {X Y : Text → Text → B → Type 0} (says : A → B) (o : Result A PathFailure) (a b d : Here) → Moves a b → ((r : Text) (y : B) → X b.rest r y → Y a.rest r y) → ((r : Text) (y : B) → Y a.rest r y → X b.rest r y) → Reads X says o b d → Reads Y says o a d
read_on says (Ok x) a b d m on back h = record { returns = on d.rest (says x) h.returns; moves = moves_then m h.moves }
read_on says (Err (Syntax f i)) a b d m on back h = record { returns = (λ r y k. h.returns.0 r y (back r y k), place_on m h.returns.1); moves = moves_then m h.moves }
read_on says (Err Memory) a b d m on back h = record { returns = tt; moves = moves_then m h.moves }

pub target_on : (c : ℕ) (o : Result Target PathFailure) (a b d : Here) → a.rest ≡ c ∷ b.rest → Moves a b → Reads (Whole (TargetRest c)) target_says o b d → Reads (Whole IsTarget) target_says o a d
target_on c o a b d e m h = read_on target_says o a b d m (λ r y w. (subst (λ z. IsTarget z y) (sym e) w.0, w.1)) (λ r y w. (subst (λ z. IsTarget z y) e w.0, w.1)) h

pub target_only : (o : Result Target PathFailure) (a d : Here) → Reads (Whole IsTarget) target_says o a d → IfOk o (λ t. (x : TargetData) → IsTarget a.rest x → x ≡ target_says t)
target_only (Ok t) a d h = λ x i. target_det i h.returns.0
target_only (Err e) a d h = tt

-- the end of a PATH
key_after : {s : Text} {y : TargetData} → IsTarget (64 ∷ s) y → AfterStep (47 ∷ 64 ∷ s) (only_target y)
key_after (IsTarget.key n) = AfterStep.to_property n

after_key : {s : Text} {p : PathData} (y : TargetData) → p ≡ only_target y → AfterStep (47 ∷ 64 ∷ s) p → IsTarget (64 ∷ s) y
after_key {s = s} y e (AfterStep.to_property n) = subst (λ z. IsTarget (64 ∷ s) z.target) e (IsTarget.key n)
after_key y e (AfterStep.step x a) = let k = step_no_key x in absurd cc

nth_after : {s : Text} {y : TargetData} → IsTarget (35 ∷ s) y → AfterStep (35 ∷ s) (only_target y)
nth_after (IsTarget.nth n) = AfterStep.to_argument n

after_nth : {s : Text} {p : PathData} (y : TargetData) → p ≡ only_target y → AfterStep (35 ∷ s) p → IsTarget (35 ∷ s) y
after_nth {s = s} y e (AfterStep.to_argument n) = subst (λ z. IsTarget (35 ∷ s) z.target) e (IsTarget.nth n)

pub end_property : (o : Result Target PathFailure) (a b d : Here) → a.rest ≡ 47 ∷ 64 ∷ b.rest → Moves a b → Reads (Whole (TargetRest 64)) target_says o b d → Reads (Whole IsEnd) target_says o a d
end_property o a b d e m h = read_on target_says o a b d m
    (λ r y w. (record { after = subst (λ z. AfterStep z (only_target y)) (sym e) (key_after w.0) }, w.1))
    (λ r y w. (after_key y refl (subst (λ z. AfterStep z (only_target y)) e w.0.after), w.1)) h

pub end_argument : (o : Result Target PathFailure) (a b d : Here) → a.rest ≡ 35 ∷ b.rest → Moves a b → Reads (Whole (TargetRest 35)) target_says o b d → Reads (Whole IsEnd) target_says o a d
end_argument o a b d e m h = read_on target_says o a b d m
    (λ r y w. (record { after = subst (λ z. AfterStep z (only_target y)) (sym e) (nth_after w.0) }, w.1))
    (λ r y w. (after_nth y refl (subst (λ z. AfterStep z (only_target y)) e w.0.after), w.1)) h

pub end_here : (s t r : Text) → t ≡ s → Nothing t r tt → Whole IsEnd s r node
end_here s t r e (f, g) = (record { after = subst (λ z. AfterStep z (only_target node)) (sym f ∙ e) AfterStep.ends }, g)

pub no_end : (s t : Text) → t ≡ s → begins_two 47 64 s ≡ false → begins 35 s ≡ false → ((r : Text) (u : Unit {0}) → Nothing t r u → ⊥) → (r : Text) (y : TargetData) → Whole IsEnd s r y → ⊥
no_end s t e h k n r y (w, g) = go refl h k (subst (λ z. (r : Text) (u : Unit {0}) → Nothing z r u → ⊥) e n) w.after
  where
    go : {s : Text} {p : PathData} → p.steps ≡ [] → begins_two 47 64 s ≡ false → begins 35 s ≡ false → ((r : Text) (u : Unit {0}) → Nothing s r u → ⊥) → AfterStep s p → ⊥
    go f h k n AfterStep.ends = n [] tt (refl, refl)
    go f h k n (AfterStep.to_argument a) = absurd cc
    go f h k n (AfterStep.to_property a) = absurd cc
    go f h k n (AfterStep.step x a) = absurd cc

-- steps
pub plain_is : (s : Text) (b d : Here) (v : Text) → IsName s b.rest v → begins 91 b.rest ≡ false → d ≡ looked b → IsStep s d.rest (record { name = v; index = None })
plain_is s b d v n h e = subst (λ (z : Here). IsStep s z.rest (record { name = v; index = None })) (sym e) (IsStep.plain n h)

pub no_step_index : (s t u v : Text) → IsName s t v → t ≡ 91 ∷ u → ((r : Text) (i : ℕ) → IsIndex u r i → ⊥) → (r : Text) (x : StepData) → IsStep s r x → ⊥
no_step_index s t u v a e n r x (IsStep.plain {v = w} m h) = let f : t ≡ r = (name_det s t r v w a m).0 in let g : begins 91 r ≡ true = ap (begins 91) (sym f ∙ e) in absurd cc
no_step_index s t u v a e n r x (IsStep.indexed {t = o} {v = w} {i = i} m j) =
    let f : t ≡ 91 ∷ o = (name_det s t (91 ∷ o) v w a m).0 in
    let g : u ≡ o = cc in
    n (93 ∷ r) i (subst (λ z. IsIndex z (93 ∷ r) i) (sym g) j)

pub no_step_end : (s t u w v : Text) (i : ℕ) → IsName s t v → t ≡ 91 ∷ u → IsIndex u w i → ((r : Text) (k : Unit {0}) → OneChar 93 w r k → ⊥) → (r : Text) (x : StepData) → IsStep s r x → ⊥
no_step_end s t u w v i a e k n r x (IsStep.plain {v = v'} m h) = let f : t ≡ r = (name_det s t r v v' a m).0 in let g : begins 91 r ≡ true = ap (begins 91) (sym f ∙ e) in absurd cc
no_step_end s t u w v i a e k n r x (IsStep.indexed {t = o} {v = v'} {i = j} m l) =
    let f : t ≡ 91 ∷ o = (name_det s t (91 ∷ o) v v' a m).0 in
    let g : u ≡ o = cc in
    n r tt (index_det u w (93 ∷ r) i j k (subst (λ z. IsIndex z (93 ∷ r) j) (sym g) l)).0

pub indexed_is : (s t u w r v : Text) (i : ℕ) → IsName s t v → t ≡ 91 ∷ u → IsIndex u w i → w ≡ 93 ∷ r → IsStep s r (record { name = v; index = Some i })
indexed_is s t u w r v i n e x f = IsStep.indexed (subst (λ z. IsName s z v) e n) (subst (λ z. IsIndex u z i) f x)

-- an index, after its digits were sliced
pub moves_sliced : (p : Text) (a b : Here) → b ≡ sliced p a → Moves a b
moves_sliced p a b e = moves_stayed {k = bytes p} (record { rest = ap (λ z. z.rest) e; at = ap (λ z. z.at) e; steps = ap (λ z. z.steps) e; same = ap (λ z. z.text) e })

pub digits_all : (s r w : Text) → Run is_digit s r → s ≡ w ++ r → list_all is_digit w ≡ true
digits_all s r w h e = subst (λ z. list_all is_digit z ≡ true) (sym (sliced_run s r w h e)) h.all

pub index_read : (i : ℕ) (a m n : Here) (p w : Text) → Run is_digit a.rest m.rest → Moves a m → n ≡ sliced p m → a.rest ≡ w ++ m.rest → NumberOf w (Some i) → Reads IsIndex (λ i. i) (Ok i) a n
index_read i a m n p w h v e f k = record { returns = subst (λ (z : Here). IsIndex a.rest z.rest i) (sym e) (index_is a.rest m.rest w i h f k); moves = moves_then v (moves_sliced p m n e) }

pub index_unread : (g : PathFault) (j : ℕ) (a m n : Here) (p w : Text) → Run is_digit a.rest m.rest → Moves a m → n ≡ sliced p m → a.rest ≡ w ++ m.rest → NumberOf w None → j ≡ a.at → Reads IsIndex (λ (i : ℕ). i) (Err (Syntax g j)) a n
index_unread g j a m n p w h v e f k o = no_read (λ (i : ℕ). i) g j a n o (no_index a.rest m.rest w h f k) (moves_then v (moves_sliced p m n e))

-- PATHs
mapped : (xs : List Step) (x : Step) → map step_says (xs ++ x ∷ []) ≡ map step_says xs ++ step_says x ∷ []
mapped [] x = refl
mapped (y ∷ xs) x = ap (λ z. step_says y ∷ z) (mapped xs x)

pub steps_first : (s t : Text) (xs ys : List Step) (x : Step) → (s ≡ 47 ∷ [] → ⊥) → IsStep s t (step_says x) → xs ≡ [] → ys ≡ xs ++ x ∷ [] → StepsSoFar s t (map step_says ys)
steps_first s t xs ys x n h e f = subst (λ z. StepsSoFar s t (map step_says z)) (sym (f ∙ ap (λ z. z ++ x ∷ []) e)) (first_step s t (step_says x) n h)

pub steps_more : (s t u w : Text) (xs ys : List Step) (x : Step) → StepsSoFar s t (map step_says xs) → AteSlash true t u → IsStep u w (step_says x) → ys ≡ xs ++ x ∷ [] → StepsSoFar s w (map step_says ys)
steps_more s t u w xs ys x h (e, k) a f = subst (StepsSoFar s w) (sym (ap (map step_says) f ∙ mapped xs x)) (one_more_step s t u w (map step_says xs) (step_says x) h e k a)

pub no_path_step : (s t u : Text) (xs : List Step) → StepsSoFar s t (map step_says xs) → AteSlash true t u → ((r : Text) (x : StepData) → IsStep u r x → ⊥) → (r : Text) (q : PathData) → Whole IsPath s r q → ⊥
no_path_step s t u xs h (e, k) n r q (i, f) = no_more_step s t u (map step_says xs) h e k n q i

pub no_path_end : (s t u : Text) (xs : List Step) → StepsSoFar s t (map step_says xs) → AteSlash false t u → ((r : Text) (y : TargetData) → Whole IsEnd u r y → ⊥) → (r : Text) (q : PathData) → Whole IsPath s r q → ⊥
no_path_end s t u xs h (k, e) n r q (i, f) = no_path s t (map step_says xs) h k (λ y a. n [] y (record { after = subst (λ z. AfterStep z (only_target y)) (sym e) a }, refl)) q i

pub path_found : (s t u r : Text) (xs : List Step) (y : Target) → StepsSoFar s t (map step_says xs) → AteSlash false t u → Whole IsEnd u r (target_says y) → IsPath s (record { steps = map step_says xs; target = target_says y }) × (r ≡ [])
path_found s t u r xs y h (k, e) (a, f) = (path_ends s t (map step_says xs) (target_says y) h (subst (λ z. AfterStep z (only_target (target_says y))) e a.after), f)

pub path_unique : (s t u r : Text) (xs : List Step) (y : Target) → StepsSoFar s t (map step_says xs) → AteSlash false t u → Whole IsEnd u r (target_says y) → (q : PathData) → IsPath s q → q ≡ record { steps = map step_says xs; target = target_says y }
path_unique s t u r xs y h (k, e) (a, f) q i = path_only s t (map step_says xs) (target_says y) h k (subst (λ z. AfterStep z (only_target (target_says y))) e a.after) q i

pub out_of_memory : {A B : Type 0} {X : Text → Text → B → Type 0} (f : A → B) (o : Result A PathFailure) (a b : Here) → IsErrAnd o (λ e. e ≡ Memory) → Moves a b → Reads X f o a b
out_of_memory f (Ok x) a b i m = absurd i
out_of_memory {X = X} f (Err e) a b i m = subst (λ z. Reads X f (Err z) a b) (sym i) (record { returns = tt; moves = m })

pub document_found : (s : Text) (xs : List Step) → s ≡ 47 ∷ [] → xs ≡ [] → IsPath s (record { steps = map step_says xs; target = node })
document_found s xs e f = subst (λ z. IsPath z (record { steps = map step_says xs; target = node })) (sym e) (subst (λ z. IsPath (47 ∷ []) (record { steps = map step_says z; target = node })) (sym f) IsPath.document)

pub document_unique : (s : Text) (xs : List Step) → s ≡ 47 ∷ [] → xs ≡ [] → (q : PathData) → IsPath s q → q ≡ record { steps = map step_says xs; target = node }
document_unique s xs e f q i = document_only q (subst (λ z. IsPath z q) e i) (no_slash []) ∙ ap (λ z. record { steps = map step_says z; target = node }) (sym f)
