-- Keys and indexes, and the errors that readers pass on.
use Rattle.std.proofs.Common.{◌≡◌, ℕ, Bool, List, [], ◌∷◌, ◌++◌, length, take, true, false, refl, sym, ap, ◌∙◌, subst, ◌==◌, ◌||◌, ◌↔◌, IsTrue, arith}
use Rattle.std.proofs.Math.Seq.{take-append_seam}
use Rattle.std.proofs.lemmas.List.{append-nil}
use Rattle.std.proofs.lemmas.Str.{IsCharBoundary-at_seam, IsUtf8-encode, IsUtf8-take, chars-append, chars-nil, chars_past_char}
use Rattle.std.specs.Char.{IsScalar}
use Rattle.std.specs.Option.{ok_or, option_eq}
use Rattle.std.specs.Prelude.{Option, Some, None, Result, Ok, Err, encode_utf8}
use Rattle.std.specs.Result.{IsErrAnd}
use Rattle.std.specs.Str.{IsUtf8, chars}
use Rattle.kdl_text.specs.Bare.{BareString}
use Rattle.kdl_text.specs.Chars.{Text, begins, starts, is_digit}
use Rattle.kdl_text.specs.Internal.Here.{Here, Looked, first}
use Rattle.kdl_text.specs.Internal.NumberReading.{ReadsNumber, number_value}
use Rattle.kdl_text.specs.Internal.Reading.{Moves}
use Rattle.kdl_text.specs.Numbers.{IsNumber, NumberValue, base_prefix, begins_number}
use Rattle.kdl_text.specs.declared.numbers.Number.{Number}
use Rattle.kdl_text.proofs.Looking.MovesJoin.{moves_then}
use Rattle.kdl_text.proofs.Quoted.BareReads.{bare_begins}
use Rattle.kdl_text.proofs.Quoted.StringUnique.{is_quoted_begins, is_raw_begins}
use Rattle.kdl_value.specs.Data.{Value}
use Rattle.kdl_syntax.specs.Pieces as piece
use Rattle.kdl_syntax.specs.Pieces.{StringPiece}
use Rattle.kdl_query.specs.Data.{Accessor}
use Rattle.kdl_query.specs.QueryText.{IsIndex, IsKey, IsName, begins_comparison}
use Rattle.kdl_query.specs.Internal.QueryReading.{IndexOf, Joins, KeyPiece, ReadsPiece, ValuePiece, begins_keyword}
use Rattle.kdl_query.specs.declared.error.Fault.{Fault as FaultKind}
use Rattle.kdl_query.specs.declared.error.Refusal.{Refusal}
use Rattle.kdl_query.specs.declared.error.Refusal.TheVariants.{Fault, Memory}
use Rattle.kdl_query.proofs.Reading.{Still, after_still, apart, moves_back, passed_on, still_stayed, still_then}
use Rattle.kdl_query.proofs.Testing.{index_faulty, index_found, index_unfit, no_second, no_value}
use Rattle.kdl_query.proofs.Unique.{name_det}

-- a refusal where nothing begins
pub refused_at : {C D : Type 0} {Y : Text → Text → D → Type 0} (g : C → D) (e : Refusal) (c d : Here) → Moves c d → ((r : Text) (y : D) → Y c.rest r y → ⊥) → ReadsPiece Y g (Err e) c d
refused_at g (Fault f) c d m n = record { returns = n; moves = m }
refused_at g Memory c d m n = record { returns = tt; moves = m }

pub back_at : {r : Text} {n : ℕ} (a b d : Here) → Moves a b → d ≡ record b { rest = r; at = n } → r ≡ a.rest → n ≡ a.at → Moves a d
back_at a b d m e h k = moves_back a b d m (e ∙ (λ i. record b { rest = h i; at = k i }))

-- the number that was read, as an index
pub index_kept : (a m b : Here) (x : Number) (o : Option ℕ) (f : FaultKind) → Still a m → (starts is_digit a.rest ≡ true) × (base_prefix a.rest ≡ None) → ReadsNumber (Ok x) m.rest b.rest → Moves m b → IndexOf (number_value x) o → ReadsPiece IsIndex (λ i. i) (ok_or o (Fault f)) a b
index_kept a m b x (Some i) f s g h v k = record { returns = index_found a.rest b.rest x i g (subst (λ z. ReadsNumber (Ok x) z b.rest) s.rest h) k; moves = moves_then s.moves v }
index_kept a m b x None f s g h v k = record { returns = index_unfit a.rest b.rest x (subst (λ z. ReadsNumber (Ok x) z b.rest) s.rest h) k; moves = moves_then s.moves v }

pub index_lost : (a m b : Here) (f : FaultKind) → Still a m → ((r : Text) (v : NumberValue) → IsNumber m.rest r v → ⊥) → Moves m b → ReadsPiece IsIndex (λ i. i) (Err (Fault f)) a b
index_lost a m b f s n v = record { returns = index_faulty a.rest (subst (λ z. (r : Text) (v : NumberValue) → IsNumber z r v → ⊥) s.rest n); moves = moves_then s.moves v }

-- a value that is neither a number nor a keyword
pub still_looks : {k : ℕ} {a b : Here} → Looked k a b → Still a b
still_looks (k, few, s) = still_stayed s

pub no_string : {A C : Type 0} {f : A → Text} (g : C → Value) (o : Result C Refusal) (e : Refusal) (a m n b : Here) → Still a m → Still m n → false ≡ begins_number a.rest → false ≡ begins_keyword m.rest → IsErrAnd o (λ x. x ≡ e) → ReadsPiece IsName f (Err e) n b → ReadsPiece ValuePiece g o a b
no_string {f = f} g o e a m n b s t x y i h =
    let j = after_still f (Err e) a n b (still_then s t) h in
    passed_on g o e a b i j j.moves (no_value a.rest (sym x) (ap begins_keyword (sym s.rest) ∙ sym y))

-- a string that begins with neither a quote nor a number sign is bare
pub bare_there : (s r v : Text) → starts (λ c. c == 34 || c == 35) s ≡ false → IsName s r v → BareString s r v
bare_there s r v h n = go n.string
  where
    go : StringPiece s r v → BareString s r v
    go (piece.bare b) = b
    go (piece.quoted q) = let k = is_quoted_begins q in let l = (apart s h).0 in absurd (cc)
    go (piece.raw q) = let k = is_raw_begins q in let l = (apart s h).1 in absurd (cc)

no_bare : (s r v : Text) → starts (λ c. c == 34 || c == 35) s ≡ true → BareString s r v → ⊥
no_bare [] r v h b = cc
no_bare (c ∷ s) r v h b = let k = no_second c (bare_begins b) in cc

-- the name of a property
pub quoted_key : (s t v : Text) → IsName s t v → starts (λ c. c == 34 || c == 35) s ≡ true → IsKey s t v
quoted_key s t v n h = record { name = n; apart = λ k b. absurd (no_bare s t v h b) }

pub apart_key : (s t v : Text) → IsName s t v → (Joins v t → ⊥) → IsKey s t v
apart_key s t v n h = record { name = n; apart = λ k b p c e. go k p c e (begins_comparison c) refl }
  where
    go : begins 61 t ≡ true → (p : Text) (c : ℕ) → v ≡ p ++ c ∷ [] → (x : Bool) → begins_comparison c ≡ x → begins_comparison c ≡ false
    go k p c e true i = absurd (h (record { before = p; last = c; name = e; compares = i; equals = k }))
    go k p c e false i = i

pub no_joined : (s t v : Text) → IsName s t v → BareString s t v → Joins v t → (r : Text) (y : Accessor) → KeyPiece s r y → ⊥
no_joined s t v n b j r y (KeyPiece.piece {v = w} k) =
    let (e, f) = name_det s t r v w n k.name in
    let h : begins_comparison j.last ≡ false = k.apart (subst (λ z. begins 61 z ≡ true) e j.equals) (subst (λ z. BareString s z w) e (subst (λ z. BareString s t z) f b)) j.before j.last (sym f ∙ j.name) in
    let i = j.compares in cc

-- the last character of a name
begins_at : (s : Text) (o : Option ℕ) (c : ℕ) → o ≡ first s → true ≡ option_eq (λ x y. x == y) o (Some c) → begins c s ≡ true
begins_at s o c e h = go s (subst (λ z. true ≡ option_eq (λ x y. x == y) z (Some c)) e h)
  where
    go : (s : Text) → true ≡ option_eq (λ x y. x == y) (first s) (Some c) → begins c s ≡ true
    go [] h = sym h
    go (d ∷ s) h = sym h

last_char : (bs front : List ℕ) (c : ℕ) → IsUtf8 bs → IsScalar c → bs ≡ front ++ encode_utf8 c → chars bs ≡ chars front ++ c ∷ []
last_char bs front c u s e =
    let one = IsUtf8-encode c s in
    let whole : IsUtf8 front = subst IsUtf8 (ap (take (length front)) e ∙ take-append_seam front (encode_utf8 c)) (IsUtf8-take bs (length front) u (IsCharBoundary-at_seam bs front (encode_utf8 c) e one)) in
    ap chars e ∙ chars-append front (encode_utf8 c) whole ∙ ap (λ t. chars front ++ t) (chars_past_char (encode_utf8 c) [] c one (sym (append-nil (encode_utf8 c))) ∙ ap (λ t. c ∷ t) chars-nil)

last_same : (xs ys : Text) (c d : ℕ) → xs ++ c ∷ [] ≡ ys ++ d ∷ [] → c ≡ d
last_same [] [] c d e = cc
last_same [] (y ∷ []) c d e = absurd (cc)
last_same [] (y ∷ z ∷ ys) c d e = absurd (cc)
last_same (x ∷ []) [] c d e = absurd (cc)
last_same (x ∷ z ∷ xs) [] c d e = absurd (cc)
last_same (x ∷ xs) (y ∷ ys) c d e = last_same xs ys c d (cc)

pub joins_so : (bs cs front : List ℕ) (c : ℕ) (s : Text) (o : Option ℕ) (r : Bool) → IsUtf8 bs → IsScalar c → cs ≡ bs → cs ≡ front ++ encode_utf8 c → o ≡ first s → true ≡ option_eq (λ x y. x == y) o (Some 61) → r ≡ begins_comparison c → IsTrue r ↔ Joins (chars bs) s
joins_so bs cs front c s o r u w i e f g h = (λ k. record { before = chars front; last = c; name = whole; compares = sym h ∙ k; equals = begins_at s o 61 f g }, λ j. h ∙ ap begins_comparison (last_same (chars front) j.before c j.last (sym whole ∙ j.name)) ∙ j.compares)
  where
    whole : chars bs ≡ chars front ++ c ∷ []
    whole = last_char bs front c u w (sym i ∙ e)

pub nothing_joins : (bs cs : List ℕ) (s : Text) → cs ≡ bs → length cs ≡ 0 → Joins (chars bs) s → ⊥
nothing_joins bs cs s i h j = go cs i h
  where
    none : (p : Text) (c : ℕ) → [] ≡ p ++ c ∷ [] → ⊥
    none [] c e = cc
    none (d ∷ p) c e = cc

    go : (cs : List ℕ) → cs ≡ bs → length cs ≡ 0 → ⊥
    go [] e h = none j.before j.last (sym (ap chars (sym e) ∙ chars-nil) ∙ j.name)
    go (c ∷ cs) e h = omega (arith, h)
