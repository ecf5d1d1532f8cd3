-- From what readers of pieces return to what readers of larger pieces return.
use Rattle.std.proofs.Common.{◌≡◌, ℕ, ◌≤◌, Bool, [], ◌∷◌, ◌++◌, true, false, refl, sym, ap, ◌∙◌, subst, arith, ◌==◌, ◌||◌}
use Rattle.std.proofs.lemmas.List.{append_assoc}
use Rattle.std.specs.Prelude.{Option, Some, Result, Ok, Err}
use Rattle.std.specs.Option.{option_eq}
use Rattle.std.specs.Result.{IsErrAnd}
use Rattle.kdl_text.specs.Bare.{BareString}
use Rattle.kdl_text.specs.Chars.{Text, begins, starts}
use Rattle.kdl_text.specs.Internal.Here.{Here, Ate, Took, TookTwo, Skips, Stayed, first, looked, stepped, tail}
use Rattle.kdl_text.specs.Internal.Reading.{Moves}
use Rattle.kdl_text.specs.MultiLine.{IsQuoted}
use Rattle.kdl_text.specs.Raw.{IsRaw}
use Rattle.kdl_text.specs.Spans.{InText, bytes, raise, span_between}
use Rattle.kdl_text.proofs.Looking.MovesJoin.{bytes-append, stays, moves_then, moves_one, moves_stayed, stayed_looked}
use Rattle.kdl_text.proofs.Quoted.StringUnique.{is_quoted_begins, is_raw_begins}
use Rattle.kdl_text.proofs.Quoted.BareReads.{bare_begins, bare_det}
use Rattle.kdl_value.specs.Tree.{text_of}
use Rattle.kdl_syntax.specs.Pieces as piece
use Rattle.kdl_syntax.specs.Pieces.{StringPiece}
use Rattle.kdl_syntax.proofs.Lexing.StringUnique.{quote_identifier, quote_sign, sign_identifier, string_det}
use Rattle.kdl_query.specs.Data.{TypeTest, some_type, type_named}
use Rattle.kdl_query.specs.QueryText.{IsName, IsOperatorWord, IsType, Spaces}
use Rattle.kdl_query.specs.Internal.QueryReading.{ReadsPiece, OneChar, Closes, AteText, IsWord, TypeRest}
use Rattle.kdl_query.specs.declared.error.Fault.{Fault as FaultKind}
use Rattle.kdl_query.specs.declared.error.Refusal.{Refusal}
use Rattle.kdl_query.specs.declared.error.Refusal.TheVariants.{Fault, Memory}
use Rattle.kdl_query.proofs.Unique.{spaces_det, name_det, right_no_piece, no_name_at, same_at}

-- a piece that was not read leaves a larger one unread
pub refused : {A B C D : Type 0} {X : Text → Text → B → Type 0} {Y : Text → Text → D → Type 0} {f : A → B} (g : C → D) (e : Refusal) {a b : Here} (c d : Here) → ReadsPiece X f (Err e) a b → Moves c d
    → (((r : Text) (y : B) → X a.rest r y → ⊥) → (r : Text) (y : D) → Y c.rest r y → ⊥) → ReadsPiece Y g (Err e) c d
refused g (Fault e) c d h m k = record { returns = k h.returns; moves = m }
refused g Memory c d h m k = record { returns = tt; moves = m }

-- the same, as `?` passes it on
pub passed_on : {A B C D : Type 0} {X : Text → Text → B → Type 0} {Y : Text → Text → D → Type 0} {f : A → B} (g : C → D) (o : Result C Refusal) (e : Refusal) {a b : Here} (c d : Here) → IsErrAnd o (λ x. x ≡ e) → ReadsPiece X f (Err e) a b → Moves c d
    → (((r : Text) (y : B) → X a.rest r y → ⊥) → (r : Text) (y : D) → Y c.rest r y → ⊥) → ReadsPiece Y g o c d
passed_on g (Ok x) e c d i h m k = absurd i
passed_on {Y = Y} g (Err x) e c d i h m k = subst (λ z. ReadsPiece Y g (Err z) c d) (sym i) (refused g e c d h m k)

-- the character here
pub no_char : (c : ℕ) (s r : Text) → begins c s ≡ false → s ≡ c ∷ r → ⊥
no_char c [] r h e = cc
no_char c (d ∷ s) r h e = grind arith

-- spaces and a character
pub closes_ok : (c : ℕ) (a b d : Here) → Spaces a.rest b.rest → Moves a b → ReadsPiece (OneChar c) (λ u. u) (Ok tt) b d → ReadsPiece (Closes c) (λ u. u) (Ok tt) a d
closes_ok c a b d s m h = record { returns = subst (λ z. Spaces a.rest z) h.returns s; moves = moves_then m h.moves }

-- names
pub bare_word : (s r v : Text) → BareString s r v → (IsOperatorWord v → ⊥) → IsWord s r v
bare_word s r v b n = record { string = piece.bare b; no_operator = λ c. n }

pub quoted_word : (s r v : Text) → IsQuoted s r v → IsWord s r v
quoted_word s r v q = record { string = piece.quoted q; no_operator = λ b. absurd (quote_identifier s (is_quoted_begins q) (bare_begins b)) }

pub raw_word : (s r v : Text) → IsRaw s r v → IsWord s r v
raw_word s r v q = record { string = piece.raw q; no_operator = λ b. absurd (sign_identifier s (is_raw_begins q) (bare_begins b)) }

-- one character
pub took_ok : (c : ℕ) (a b : Here) → Took (Some c) a b → ReadsPiece (OneChar c) (λ u. u) (Ok tt) a b
took_ok c a b h = record { returns = h.0; moves = moves_one h }

pub took_none : (c : ℕ) (f : FaultKind) (a b : Here) → begins c a.rest ≡ false → b ≡ looked a → ReadsPiece (OneChar c) (λ u. u) (Err (Fault f)) a b
took_none c f a b h e = record { returns = λ r u k. no_char c a.rest r h k; moves = moves_stayed (stayed_looked a b e) }

-- spaces and a character
pub closes : (c : ℕ) (o : Result (Unit {0}) Refusal) (a b d : Here) → Spaces a.rest b.rest → Moves a b → ReadsPiece (OneChar c) (λ u. u) o b d → ReadsPiece (Closes c) (λ u. u) o a d
closes c (Ok tt) a b d s m h = closes_ok c a b d s m h
closes c (Err e) a b d s m h = refused (λ u. u) e a d h (moves_then m h.moves) (λ n r u k. n r u (spaces_det s k))

-- spaces, and another character after them
pub record PastSpaces (c : ℕ) (a b : Here) : Type 0 where
  pub spaces : Spaces a.rest b.rest
  pub other : begins c b.rest ≡ false
  pub moves : Moves a b

pub past_spaces : (c : ℕ) (a m b : Here) → Spaces a.rest m.rest → Moves a m → Ate c false m b → PastSpaces c a b
past_spaces c a m b s n (h, e) =
    let r : m.rest ≡ b.rest = sym (ap (λ z. z.rest) e) in
    record { spaces = subst (λ z. Spaces a.rest z) r s; other = subst (λ z. begins c z ≡ false) r h; moves = moves_then n (moves_stayed (stayed_looked m b e)) }

-- back at a place
pub moves_back : (a b d : Here) → Moves a b → d ≡ record b { rest = a.rest; at = a.at } → Moves a d
moves_back a b d m e = record {
  piece = ([], sym (ap (λ z. z.rest) e));
  at = omega (arith, ap (λ z. z.at) e, ap (λ z. bytes z.rest) e);
  counts = subst (λ z. raise a.steps 0 ≤ raise z 0) (sym (ap (λ z. z.steps) e)) m.counts;
  same = ap (λ z. z.text) e ∙ m.same;
}

-- a cursor that advanced to a place with the same text before it
pub record Still (a b : Here) : Type 0 where
  pub rest : b.rest ≡ a.rest
  pub moves : Moves a b

pub still_looked : {a b : Here} → b ≡ looked a → Still a b
still_looked {a = a} {b = b} e = record { rest = ap (λ z. z.rest) e; moves = moves_stayed (stayed_looked a b e) }

pub still_stayed : {k : ℕ} {a b : Here} → Stayed k a b → Still a b
still_stayed s = record { rest = s.rest; moves = moves_stayed s }

pub still_then : {a b d : Here} → Still a b → Still b d → Still a d
still_then s t = record { rest = t.rest ∙ s.rest; moves = moves_then s.moves t.moves }

pub one_at : {c : ℕ} {a b d : Here} → Still a b → Took (Some c) b d → a.rest ≡ c ∷ d.rest
one_at s t = sym s.rest ∙ t.0

pub two_at : {c d : ℕ} {a b e : Here} → Still a b → TookTwo c d b e → a.rest ≡ c ∷ d ∷ e.rest
two_at s t = sym s.rest ∙ t.rest

-- what was read after looks is what begins before them
pub after_still : {A B : Type 0} {X : Text → Text → B → Type 0} (says : A → B) (o : Result A Refusal) (a b d : Here) → Still a b → ReadsPiece X says o b d → ReadsPiece X says o a d
after_still {X = X} says (Ok x) a b d s h = record { returns = subst (λ z. X z d.rest (says x)) s.rest h.returns; moves = moves_then s.moves h.moves }
after_still {B = B} {X = X} says (Err (Fault f)) a b d s h = record { returns = subst (λ z. (r : Text) (y : B) → X z r y → ⊥) s.rest h.returns; moves = moves_then s.moves h.moves }
after_still says (Err Memory) a b d s h = record { returns = tt; moves = moves_then s.moves h.moves }

-- no word was read, unless memory failed
unread : (o : Refusal) (a b : Here) → ((r v : Text) → IsWord a.rest r v → (o ≡ Memory → ⊥) → ⊥) → Moves a b → ReadsPiece IsWord text_of (Err o) a b
unread (Fault f) a b h m = record { returns = λ r v w. h r v w (λ k. absurd cc); moves = m }
unread Memory a b h m = record { returns = tt; moves = m }

-- names, by what their readers return
pub apart : (s : Text) → starts (λ c. c == 34 || c == 35) s ≡ false → (starts (λ c. c == 34) s ≡ false) × (starts (λ c. c == 35) s ≡ false)
apart [] h = (refl, refl)
apart (c ∷ s) h = (grind arith, grind arith)

pub bare_none : (s r v : Text) → starts (λ c. c == 34 || c == 35) s ≡ false → ((r w : Text) → BareString s r w → ⊥) → IsWord s r v → ⊥
bare_none s r v h n w = go w.string
  where
    go : StringPiece s r v → ⊥
    go (piece.bare b) = n r v b
    go (piece.quoted q) = let k = is_quoted_begins q in let l = (apart s h).0 in cc
    go (piece.raw q) = let k = is_raw_begins q in let l = (apart s h).1 in cc

pub operator_none : (s t w : Text) → BareString s t w → IsOperatorWord w → (r v : Text) → IsWord s r v → ⊥
operator_none s t w b o r v x = go x.string x.no_operator
  where
    go : StringPiece s r v → (BareString s r v → ¬ IsOperatorWord v) → ⊥
    go (piece.bare c) n = n c (subst IsOperatorWord (bare_det b c).1 o)
    go (piece.quoted q) n = quote_identifier s (is_quoted_begins q) (bare_begins b)
    go (piece.raw q) n = sign_identifier s (is_raw_begins q) (bare_begins b)

first_is : (s : Text) (c : ℕ) → first s ≡ Some c → starts (λ d. d == c) s ≡ true
first_is [] c h = cc
first_is (d ∷ s) c h = grind arith

pub quoted_none : (s r v : Text) → first s ≡ Some 34 → ((r v : Text) → IsQuoted s r v → ⊥) → IsWord s r v → ⊥
quoted_none s r v h n x = go x.string
  where
    go : StringPiece s r v → ⊥
    go (piece.bare b) = quote_identifier s (first_is s 34 h) (bare_begins b)
    go (piece.quoted q) = n r v q
    go (piece.raw q) = quote_sign s (first_is s 34 h) (is_raw_begins q)

pub quoted_unread : (o : Refusal) (a b d : Here) → first a.rest ≡ Some 34 → b ≡ looked a → ((r v : Text) → IsQuoted b.rest r v → o ≡ Memory) → Moves b d → ReadsPiece IsWord text_of (Err o) a d
quoted_unread o a b d h e n m = after_still text_of (Err o) a b d (still_looked e) (unread o b d (λ r v w k. quoted_none b.rest r v (ap (λ z. first z.rest) e ∙ h) (λ t u q. k (n t u q)) w) m)

pub raw_none : (s r v : Text) → first s ≡ Some 35 → ((r v : Text) → IsRaw s r v → ⊥) → IsWord s r v → ⊥
raw_none s r v h n x = go x.string
  where
    go : StringPiece s r v → ⊥
    go (piece.bare b) = sign_identifier s (first_is s 35 h) (bare_begins b)
    go (piece.quoted q) = quote_sign s (is_quoted_begins q) (first_is s 35 h)
    go (piece.raw q) = n r v q

pub raw_unread : (o : Refusal) (a b d : Here) → first a.rest ≡ Some 35 → b ≡ looked a → ((r v : Text) → IsRaw b.rest r v → o ≡ Memory) → Moves b d → ReadsPiece IsWord text_of (Err o) a d
raw_unread o a b d h e n m = after_still text_of (Err o) a b d (still_looked e) (unread o b d (λ r v w k. raw_none b.rest r v (ap (λ z. first z.rest) e ∙ h) (λ t u q. k (n t u q)) w) m)

-- a word with a `(` after it
pub function_none : (s t w r v : Text) → IsWord s t w → begins 40 t ≡ true → IsName s r v → ⊥
function_none s t w r v x h n = let e : begins 40 t ≡ begins 40 r = ap (begins 40) (string_det x.string n.string).0 in let k = n.no_function in cc

-- the character at which a cursor looks
pub looked_char : (s : Text) (c : ℕ) (o : Option ℕ) → o ≡ first s → option_eq (λ a b. a == b) o (Some c) ≡ true → begins c s ≡ true
looked_char [] c o e h = absurd cc
looked_char (d ∷ s) c o e h = subst (λ z. option_eq (λ a b. a == b) z (Some c) ≡ true) e h

-- types
pub any_type : (s r : Text) (m : Text) → Spaces s m → m ≡ 41 ∷ r → TypeRest s r some_type
any_type s r m p e = IsType.any (subst (λ z. Spaces s z) e p)

pub named_type : (s t u r v : Text) → Spaces s t → IsName t u v → Spaces u (41 ∷ r) → TypeRest s r (type_named v)
named_type s t u r v p n q = IsType.named p n q

pub no_type_name : (s t : Text) → Spaces s t → begins 41 t ≡ false → ((r v : Text) → IsName t r v → ⊥) → (r : Text) (y : TypeTest) → TypeRest s r y → ⊥
no_type_name s t p h n r y x = go r y x
  where
    go : (r : Text) (y : TypeTest) → IsType (40 ∷ s) r y → ⊥
    go r y (IsType.any a) = no_char 41 t r h (spaces_det p a)
    go r y (IsType.named {u = u} {v = v} a m b) = n u v (subst (λ z. IsName z u v) (spaces_det a p) m)

pub no_type_end : (s t u v : Text) → Spaces s t → IsName t u v → ((r : Text) (x : Unit {0}) → Closes 41 u r x → ⊥) → (r : Text) (y : TypeTest) → TypeRest s r y → ⊥
no_type_end s t u v p n k r y x = go r y x
  where
    go : (r : Text) (y : TypeTest) → IsType (40 ∷ s) r y → ⊥
    go r y (IsType.any a) = no_name_at 41 r u v right_no_piece (subst (λ z. IsName z u v) (spaces_det p a) n)
    go r y (IsType.named {t = t'} {u = u'} {v = v'} a m b) = k r tt (subst (λ z. Spaces z (41 ∷ r)) (sym (same_at IsName name_det t t' u u' v v' (spaces_det p a) n m).0) b)

-- how much of a text was read
pub record AteSoFar (f a : Here) (whole left : Text) : Type 0 where
  pub on : (r : Text) → a.rest ≡ left ++ r → f.rest ≡ whole ++ r
  pub back : (r : Text) → f.rest ≡ whole ++ r → a.rest ≡ left ++ r
  pub moves : Moves f a

pub ate_begin : (f : Here) (w : Text) → AteSoFar f f w w
ate_begin f w = record { on = λ r e. e; back = λ r e. e; moves = stays f }

pub ate_more : (f a b : Here) (w l m : Text) (c : ℕ) → AteSoFar f a w l → l ≡ c ∷ m → Took (Some c) a b → AteSoFar f b w m
ate_more f a b w l m c h e t = record {
  on = λ r k. h.on r (t.0 ∙ ap (λ z. c ∷ z) k ∙ ap (λ z. z ++ r) (sym e));
  back = λ r k. (let i : c ∷ b.rest ≡ c ∷ (m ++ r) = sym t.0 ∙ h.back r k ∙ ap (λ z. z ++ r) e in cc);
  moves = moves_then h.moves (moves_one t);
}

pub ate_all : (f a : Here) (w l : Text) → AteSoFar f a w l → l ≡ [] → AteText w true f a
ate_all f a w l h e = h.on a.rest (ap (λ z. z ++ a.rest) (sym e))

pub ate_not : (f a b : Here) (w l m : Text) (c : ℕ) → AteSoFar f a w l → l ≡ c ∷ m → begins c a.rest ≡ false → b.rest ≡ f.rest → AteText w false f b
ate_not f a b w l m c h e n k = (λ r i. no_char c a.rest (m ++ r) n (h.back r i ∙ ap (λ z. z ++ r) e), k)

pub ahead_step : (p : ℕ → Bool) (a b d : Here) → Skips p a b → d ≡ stepped b → (q : Text) × (a.rest ≡ q ++ d.rest)
ahead_step p a b d (q, r) e = let (k, f) = go b.rest in (q ++ k, r.text ∙ ap (λ z. q ++ z) (f ∙ ap (λ z. k ++ z.rest) (sym e)) ∙ sym (append_assoc q k d.rest))
  where
    go : (s : Text) → (k : Text) × (s ≡ k ++ tail s)
    go [] = ([], refl)
    go (c ∷ s) = (c ∷ [], refl)

-- the span of a piece is in the text
pub span_in : (w t r p q : Text) → w ≡ p ++ t → t ≡ q ++ r → InText w (span_between w t r)
span_in w t r p q e f = (p, q, r, e ∙ ap (λ z. p ++ z) f ∙ sym (append_assoc p q r), omega (arith, ap bytes e, bytes-append p t), omega (arith, ap bytes f, bytes-append q r))
