-- Accessors, literals and tests, from what their readers return.
use Rattle.std.proofs.Common.{◌≡◌, ℕ, ℤ, pos, Bool, List, [], ◌∷◌, ◌++◌, true, false, codes, refl, sym, ap, ◌∙◌, subst, ◌==◌, ◌||◌, arith}
use Rattle.std.proofs.lemmas.List.{append_assoc, append-nil, map-append}
use Rattle.std.proofs.Common.{of_z, to_z}
use Rattle.std.proofs.lemmas.Bool.{and_parts, eqb-true}
use Rattle.std.proofs.lemmas.Bool.Decides.{nat_tests}
use Rattle.std.specs.Int.{w128}
use Rattle.std.specs.Prelude.{Some, None, Result, Ok, Err, IsErrAnd, String, map, not, string_bytes}
use Rattle.std.specs.Str.{chars}
use Rattle.std.specs.declared.alloc.Global.{Global}
use Rattle.kdl_text.specs.Chars.{Text, begins, begins_two, starts, is_digit, is_space, is_newline_char, is_banned, is_punctuation, is_identifier_char}
use Rattle.kdl_text.specs.Internal.Here.{Ate, Here, Took, first, tail}
use Rattle.kdl_text.specs.Internal.NumberReading.{ReadsKeyword, ReadsNumber, number_value}
use Rattle.kdl_text.specs.Internal.Reading.{Goes, Moves}
use Rattle.kdl_text.specs.Numbers.{IsKeyword, IsNumber, NumberValue, WholeNumber, base_prefix, begins_number, is_whole, whole_value}
use Rattle.kdl_text.specs.declared.numbers.Keyword.{Keyword}
use Rattle.kdl_text.specs.declared.numbers.Number.{Number}
use Rattle.kdl_text.specs.declared.numbers.Number.TheVariants.{Integer as IntegerNumber, Decimal as DecimalNumber}
use Rattle.kdl_text.proofs.Numeric.DecimalUnique.{number_begins}
use Rattle.kdl_text.proofs.Numeric.KeywordUnique.{keyword_begins}
use Rattle.kdl_text.proofs.Looking.MovesJoin.{moves_one, moves_then}
use Rattle.kdl_value.specs.Data.{Value, float, integer}
use Rattle.kdl_syntax.specs.Pieces as piece
use Rattle.kdl_syntax.specs.Pieces.{keyword_value}
use Rattle.kdl_syntax.proofs.Lexing.TokenReads.{a_keyword_here, decimal_here, integer_here, no_keyword_here, no_number_here}
use Rattle.kdl_syntax.specs.Tokens.{BeginsToken, NoToken, string, value as value_token, t_string, t_value}
use Rattle.kdl_query.specs.Data.{Accessor, Literal, Test, TypeTest, argument, arguments, compares, name, properties, ty}
use Rattle.kdl_query.specs.QueryText.{AfterAccessor, AreTests, IsAccessor, IsComparison, IsIndex, IsLiteral, IsName, IsTest, Spaces, is_allowed}
use Rattle.kdl_query.specs.Internal.QueryReading.{AfterWord, Closes, FittingLiteral, IndexOf, KeyPiece, ReadsPiece, Returns, TestRest, TypeRest, ValuePiece, Word, begins_keyword}
use Rattle.kdl_query.specs.declared.error.Refusal.{Refusal}
use Rattle.kdl_query.specs.declared.error.Refusal.TheVariants.{Fault, Memory}
use Rattle.kdl_query.specs.declared.tree.Comparison.{Comparison}
use Rattle.kdl_query.specs.declared.tree.Comparison.TheVariants.{Greater, Less}
use Rattle.kdl_query.proofs.Reading.{Still, after_still, no_char, refused, still_looked}
use Rattle.kdl_query.proofs.Unique.{accessor_det, comparison_det, index_det, left_no_piece, literal_det, name_det, no_accessor_there, no_key_name, no_key_prop, no_key_props, no_key_tag, no_key_val, no_key_values, no_name_at, no_plain_at, same_at, spaces_at, spaces_det, test_det}

-- numbers and keywords as literals
pub plain_token : (s r : Text) (v : Value) → BeginsToken s (value_token v) r → ValuePiece s r v
plain_token s r v (t_value p) = IsLiteral.plain p

pub no_literal : (s r : Text) (v : Value) → NoToken s → ValuePiece s r v → ⊥
no_literal s r v n (IsLiteral.string {v = w} x) = n.none r (string w) (t_string x.string)
no_literal s r v n (IsLiteral.plain p) = n.none r (value_token v) (t_value p)

-- tests in a row
goes_on : (f a b : Text) (xs : List Test) (x : Test) → Goes AreTests f xs a → IsTest a b x → Goes AreTests f (xs ++ x ∷ []) b
goes_on f a b xs x g t = record { on = on; back = back }
  where
    on : (r : Text) (v : List Test) → AreTests b r v → AreTests f r ((xs ++ x ∷ []) ++ v)
    on r v h = subst (AreTests f r) (sym (append_assoc xs (x ∷ []) v)) (g.on r (x ∷ v) (AreTests.more t h))

    next : (r : Text) (v : List Test) → AreTests a r v → (w : List Test) × (v ≡ x ∷ w) × AreTests b r w
    next r v (AreTests.none h) = absurd (begun t h)
      where
        begun : {s r : Text} {x : Test} → IsTest s r x → begins 91 s ≡ false → ⊥
        begun (IsTest.nothing a) h = cc
        begun (IsTest.something a b c d) h = cc
    next r v (AreTests.more {t = b'} {x = x'} {xs = w} t' h) =
        let (e, k) = test_det a b b' x x' t t' in
        (w, cc, subst (λ z. AreTests z r w) (sym e) h)

    back : (r : Text) (w : List Test) → AreTests f r w → (v : List Test) × (w ≡ (xs ++ x ∷ []) ++ v) × AreTests b r v
    back r w h =
        let (v, e, k) = g.back r w h in
        let (u, i, j) = next r v k in
        (u, e ∙ ap (λ z. xs ++ z) i ∙ sym (append_assoc xs (x ∷ []) u), j)

goes_end : (f a : Text) (xs : List Test) → Goes AreTests f xs a → begins 91 a ≡ false → AreTests f a xs
goes_end f a xs g h = subst (AreTests f a) (append-nil xs) (g.on a [] (AreTests.none h))

goes_wrong : (f a r : Text) (xs ys : List Test) → Goes AreTests f xs a → begins 91 a ≡ true → ((t : Text) (x : Test) → IsTest a t x → ⊥) → AreTests f r ys → ⊥
goes_wrong f a r xs ys g h n t = let (v, e, k) = g.back r ys t in go a r v h n k
  where
    go : (a r : Text) (v : List Test) → begins 91 a ≡ true → ((t : Text) (x : Test) → IsTest a t x → ⊥) → AreTests a r v → ⊥
    go a r v h n (AreTests.none k) = cc
    go a r v h n (AreTests.more k l) = n _ _ k

-- an index
whole_of : (s r : Text) (i : ℕ) → IsNumber s r (whole_value (pos i)) → WholeNumber s r (pos i)
whole_of s r i (is_whole w) = w

pub index_found : (s t : Text) (x : Number) (i : ℕ) → (starts is_digit s ≡ true) × (base_prefix s ≡ None) → ReadsNumber (Ok x) s t → IndexOf (number_value x) (Some i) → IsIndex s t i
index_found s t x i h n k = record { number = whole_of s t i ((n t (whole_value (pos i))).1 (refl, sym k.0)); unsigned = h.0; decimal = h.1; fits = k.1 }

pub index_unfit : (s t : Text) (x : Number) → ReadsNumber (Ok x) s t → IndexOf (number_value x) None → (r : Text) (i : ℕ) → IsIndex s r i → ⊥
index_unfit s t x n k r i d = k i (sym ((n r (whole_value (pos i))).0 (is_whole d.number)).1) d.fits

pub index_faulty : (s : Text) → ((r : Text) (v : NumberValue) → IsNumber s r v → ⊥) → (r : Text) (i : ℕ) → IsIndex s r i → ⊥
index_faulty s n r i d = n r (whole_value (pos i)) (is_whole d.number)

-- the arguments of `val` and `prop`
pub argument_first : (s m r : Text) → Spaces s m → m ≡ 41 ∷ r → AfterWord (codes "val(") s r (argument 0)
argument_first s m r p e = IsAccessor.first (subst (λ z. Spaces s z) e p)

pub no_argument : (s t : Text) → Spaces s t → begins 41 t ≡ false → ((r : Text) (i : ℕ) → IsIndex t r i → ⊥) → (r : Text) (a : Accessor) → AfterWord (codes "val(") s r a → ⊥
no_argument s t p h n r a x = go r a x
  where
    go : (r : Text) (a : Accessor) → IsAccessor (codes "val(" ++ s) r a → ⊥
    go r a (IsAccessor.first b) = no_char 41 t r h (spaces_det p b)
    go r a (IsAccessor.nth {u = u} {i = i} b m c) = n u i (subst (λ z. IsIndex z u i) (spaces_det b p) m)
    go r a (IsAccessor.key b) = no_key_val _ _ _ b.name

pub no_argument_end : (s t u : Text) (i : ℕ) → Spaces s t → IsIndex t u i → ((r : Text) (x : Unit {0}) → Closes 41 u r x → ⊥) → (r : Text) (a : Accessor) → AfterWord (codes "val(") s r a → ⊥
no_argument_end s t u i p n k r a x = go r a x
  where
    go : (r : Text) (a : Accessor) → IsAccessor (codes "val(" ++ s) r a → ⊥
    go r a (IsAccessor.first b) = let h = (subst (λ z. IsIndex z u i) (spaces_det p b) n).unsigned in cc
    go r a (IsAccessor.nth {t = t'} {u = u'} {i = j} b m c) = k r tt (subst (λ z. Spaces z (41 ∷ r)) (sym (same_at IsIndex index_det t t' u u' i j (spaces_det p b) n m).0) c)
    go r a (IsAccessor.key b) = no_key_val _ _ _ b.name

pub no_property : (s t : Text) → Spaces s t → ((r v : Text) → IsName t r v → ⊥) → (r : Text) (a : Accessor) → AfterWord (codes "prop(") s r a → ⊥
no_property s t p n r a x = go r a x
  where
    go : (r : Text) (a : Accessor) → IsAccessor (codes "prop(" ++ s) r a → ⊥
    go r a (IsAccessor.prop {u = u} {v = v} b m c) = n u v (subst (λ z. IsName z u v) (spaces_det b p) m)
    go r a (IsAccessor.key b) = no_key_prop _ _ _ b.name

pub no_property_end : (s t u v : Text) → Spaces s t → IsName t u v → ((r : Text) (x : Unit {0}) → Closes 41 u r x → ⊥) → (r : Text) (a : Accessor) → AfterWord (codes "prop(") s r a → ⊥
no_property_end s t u v p n k r a x = go r a x
  where
    go : (r : Text) (a : Accessor) → IsAccessor (codes "prop(" ++ s) r a → ⊥
    go r a (IsAccessor.prop {t = t'} {u = u'} {v = w} b m c) = k r tt (subst (λ z. Spaces z (41 ∷ r)) (sym (same_at IsName name_det t t' u u' v w (spaces_det p b) n m).0) c)
    go r a (IsAccessor.key b) = no_key_prop _ _ _ b.name

-- an accessor, after its word
pub word_accessor : {A : Type 0} (w : Text) (says : A → Accessor) (o : Result A Refusal) (a m b : Here) → a.rest ≡ w ++ m.rest → Moves a m → ReadsPiece (AfterWord w) says o m b → ReadsPiece IsAccessor says o a b
word_accessor w says (Ok x) a m b e v h = record { returns = subst (λ z. IsAccessor z b.rest (says x)) (sym e) h.returns; moves = moves_then v h.moves }
word_accessor w says (Err f) a m b e v h = refused says f a b h (moves_then v h.moves) (λ n r y k. n r y (subst (λ z. IsAccessor z r y) e k))

named_word : {A : Type 0} (w : Text) (x : Accessor) (says : A → Accessor) → ((s r : Text) → Spaces s (41 ∷ r) → IsAccessor (w ++ s) r x) → ((s r : Text) (y : Accessor) → IsAccessor (w ++ s) r y → Word x s r y) → (o : Result A Refusal) (a b : Here) → ReadsPiece (Word x) says o a b → ReadsPiece (AfterWord w) says o a b
named_word w x says on back (Ok v) a b h = record { returns = subst (IsAccessor (w ++ a.rest) b.rest) (sym h.returns.same) (on a.rest b.rest h.returns.closes); moves = h.moves }
named_word w x says on back (Err f) a b h = refused says f a b h h.moves (λ n r y k. n r y (back a.rest r y k))

name_back : (s r : Text) (y : Accessor) → IsAccessor (codes "name(" ++ s) r y → Word name s r y
name_back s r y (IsAccessor.name_of p) = record { closes = p; same = refl }
name_back s r y (IsAccessor.key b) = absurd (no_key_name _ _ _ b.name)

tag_back : (s r : Text) (y : Accessor) → IsAccessor (codes "tag(" ++ s) r y → Word ty s r y
tag_back s r y (IsAccessor.type_of p) = record { closes = p; same = refl }
tag_back s r y (IsAccessor.key b) = absurd (no_key_tag _ _ _ b.name)

values_back : (s r : Text) (y : Accessor) → IsAccessor (codes "values(" ++ s) r y → Word arguments s r y
values_back s r y (IsAccessor.values p) = record { closes = p; same = refl }
values_back s r y (IsAccessor.key b) = absurd (no_key_values _ _ _ b.name)

props_back : (s r : Text) (y : Accessor) → IsAccessor (codes "props(" ++ s) r y → Word properties s r y
props_back s r y (IsAccessor.props p) = record { closes = p; same = refl }
props_back s r y (IsAccessor.key b) = absurd (no_key_props _ _ _ b.name)

pub name_word : {A : Type 0} (says : A → Accessor) (o : Result A Refusal) (a b : Here) → ReadsPiece (Word name) says o a b → ReadsPiece (AfterWord (codes "name(")) says o a b
name_word says o a b h = named_word (codes "name(") name says (λ s r p. IsAccessor.name_of p) name_back o a b h

pub tag_word : {A : Type 0} (says : A → Accessor) (o : Result A Refusal) (a b : Here) → ReadsPiece (Word ty) says o a b → ReadsPiece (AfterWord (codes "tag(")) says o a b
tag_word says o a b h = named_word (codes "tag(") ty says (λ s r p. IsAccessor.type_of p) tag_back o a b h

pub values_word : {A : Type 0} (says : A → Accessor) (o : Result A Refusal) (a b : Here) → ReadsPiece (Word arguments) says o a b → ReadsPiece (AfterWord (codes "values(")) says o a b
values_word says o a b h = named_word (codes "values(") arguments says (λ s r p. IsAccessor.values p) values_back o a b h

pub props_word : {A : Type 0} (says : A → Accessor) (o : Result A Refusal) (a b : Here) → ReadsPiece (Word properties) says o a b → ReadsPiece (AfterWord (codes "props(")) says o a b
props_word says o a b h = named_word (codes "props(") properties says (λ s r p. IsAccessor.props p) props_back o a b h

-- no word of an accessor begins the text
pub record NoWord (s : Text) : Type 0 where
  pub val : (r : Text) → s ≡ codes "val(" ++ r → ⊥
  pub prop : (r : Text) → s ≡ codes "prop(" ++ r → ⊥
  pub name : (r : Text) → s ≡ codes "name(" ++ r → ⊥
  pub tag : (r : Text) → s ≡ codes "tag(" ++ r → ⊥
  pub values : (r : Text) → s ≡ codes "values(" ++ r → ⊥
  pub props : (r : Text) → s ≡ codes "props(" ++ r → ⊥

only_key : (s r : Text) (y : Accessor) → NoWord s → IsAccessor s r y → KeyPiece s r y
only_key s r y n (IsAccessor.first a) = absurd (n.val _ refl)
only_key s r y n (IsAccessor.nth a b c) = absurd (n.val _ refl)
only_key s r y n (IsAccessor.prop a b c) = absurd (n.prop _ refl)
only_key s r y n (IsAccessor.name_of a) = absurd (n.name _ refl)
only_key s r y n (IsAccessor.type_of a) = absurd (n.tag _ refl)
only_key s r y n (IsAccessor.values a) = absurd (n.values _ refl)
only_key s r y n (IsAccessor.props a) = absurd (n.props _ refl)
only_key s r y n (IsAccessor.key k) = KeyPiece.piece k

key_accessor : (s r : Text) (y : Accessor) → KeyPiece s r y → IsAccessor s r y
key_accessor s r y (KeyPiece.piece k) = IsAccessor.key k

pub key_reads : {A : Type 0} (says : A → Accessor) (o : Result A Refusal) (a b : Here) → NoWord a.rest → ReadsPiece KeyPiece says o a b → ReadsPiece IsAccessor says o a b
key_reads says (Ok x) a b n h = record { returns = key_accessor _ _ _ h.returns; moves = h.moves }
key_reads says (Err f) a b n h = refused says f a b h h.moves (λ k r y m. k r y (only_key a.rest r y n m))

-- what follows an accessor
no_comparison : (a : Accessor) (s : Text) → begins 93 s ≡ false → ((r : Text) (c : Comparison) → IsComparison s r c → ⊥) → (r : Text) (x : Test) → AfterAccessor a s r x → ⊥
no_comparison a s h n r x AfterAccessor.alone = cc
no_comparison a s h n r x (AfterAccessor.compared b p m k q) = n _ _ b

no_fitting : (a : Accessor) (s t u : Text) (c : Comparison) → begins 93 s ≡ false → IsComparison s t c → Spaces t u → ((r : Text) (l : Literal) → FittingLiteral a c u r l → ⊥) → (r : Text) (x : Test) → AfterAccessor a s r x → ⊥
no_fitting a s t u c h b p n r x AfterAccessor.alone = cc
no_fitting a s t u c h b p n r x (AfterAccessor.compared {t = t'} {u = u'} {v = v'} {c = c'} {l = l'} b' p' m' k' q') =
    let (e, f) = comparison_det s t t' c c' b b' in
    n v' l' (record { literal = subst (λ z. IsLiteral z v' l') (sym (spaces_at t t' u u' e p p')) m'; allowed = ap (λ z. is_allowed a z l') f ∙ k' })

no_test_end : (a : Accessor) (s t u v : Text) (c : Comparison) (l : Literal) → begins 93 s ≡ false → IsComparison s t c → Spaces t u → FittingLiteral a c u v l → ((r : Text) (x : Unit {0}) → Closes 93 v r x → ⊥) → (r : Text) (x : Test) → AfterAccessor a s r x → ⊥
no_test_end a s t u v c l h b p m n r x AfterAccessor.alone = cc
no_test_end a s t u v c l h b p m n r x (AfterAccessor.compared {t = t'} {u = u'} {v = v'} {c = c'} {l = l'} b' p' m' k' q') =
    let (e, f) = comparison_det s t t' c c' b b' in
    n r tt (subst (λ z. Spaces z (93 ∷ r)) (sym (same_at IsLiteral literal_det u u' v v' l l' (spaces_at t t' u u' e p p') m.literal m').0) q')

pub no_unfit : (a : Accessor) (c : Comparison) (s t : Text) (l : Literal) → IsLiteral s t l → is_allowed a c l ≡ false → (r : Text) (x : Literal) → FittingLiteral a c s r x → ⊥
no_unfit a c s t l h k r x f = let (e, m) = literal_det s t r l x h f.literal in let i : is_allowed a c l ≡ is_allowed a c x = ap (is_allowed a c) m in let j = f.allowed in cc

-- the rest of a test
no_test_accessor : (s t : Text) → Spaces s t → begins 93 t ≡ false → ((r : Text) (a : Accessor) → IsAccessor t r a → ⊥) → (r : Text) (x : Test) → TestRest s r x → ⊥
no_test_accessor s t p h n r x d = go r x d
  where
    go : (r : Text) (x : Test) → IsTest (91 ∷ s) r x → ⊥
    go r x (IsTest.nothing a) = no_char 93 t r h (spaces_det p a)
    go r x (IsTest.something {u = u} {a = a} b c e f) = n u a (subst (λ z. IsAccessor z u a) (spaces_det b p) c)

test_on : {A : Type 0} (says : A → Test) (o : Result A Refusal) (m b : Here) (s t u v : Text) (a : Accessor) → Spaces s t → IsAccessor t u a → Spaces u v → m.rest ≡ v → Returns (AfterAccessor a) says o m.rest b.rest → Returns TestRest says o s b.rest
test_on says (Ok x) m b s t u v a p c q e h = IsTest.something p c (subst (λ z. Spaces u z) (sym e) q) h
test_on says (Err Memory) m b s t u v a p c q e h = tt
test_on says (Err (Fault f)) m b s t u v a p c q e h = λ r x d. go r x d
  where
    go : (r : Text) (x : Test) → IsTest (91 ∷ s) r x → ⊥
    go r x (IsTest.nothing k) = no_accessor_there r t u a (sym (spaces_det p k)) c
    go r x (IsTest.something {t = t'} {u = u'} {v = v'} {a = a'} p' c' q' d') =
        let (i, j) = same_at IsAccessor accessor_det t t' u u' a a' (spaces_det p p') c c' in
        h r x (subst (λ z. AfterAccessor a z r x) (sym (e ∙ spaces_at u u' v v' i q q')) (subst (λ z. AfterAccessor z v' r x) (sym j) d'))

-- numbers and keywords, by what their readers return
pub number_piece : (s r : Text) (n : ℤ) → ReadsNumber (Ok (IntegerNumber n)) s r → ValuePiece s r (integer (to_z w128 (of_z w128 n)))
number_piece s r n h = plain_token s r _ (integer_here s r n h)

pub decimal_piece : (s r w : Text) (x : String Global) → ReadsNumber (Ok (DecimalNumber x)) s r → w ≡ chars (string_bytes x) → ValuePiece s r (float w)
decimal_piece s r w x h e = plain_token s r _ (decimal_here s r w x h e)

pub no_number_piece : (s : Text) → begins_number s ≡ true → ((r : Text) (v : NumberValue) → IsNumber s r v → ⊥) → (r : Text) (v : Value) → ValuePiece s r v → ⊥
no_number_piece s h n r v p = no_literal s r v (no_number_here s s h n) p

keyword_parts : (s : Text) → begins_keyword s ≡ true → (first s ≡ Some 35) × (starts (λ c. c == 34 || c == 35) (tail s) ≡ false)
keyword_parts [] h = cc
keyword_parts (c ∷ s) h = let (a, b) = and_parts (c == 35) _ h in (ap Some (eqb-true c 35 a), not_true _ b)
  where
    not_true : (b : Bool) → not b ≡ true → b ≡ false
    not_true true h = cc
    not_true false h = refl

pub keyword_piece : (s r : Text) (k : Keyword) (v : Value) → ReadsKeyword (Some k) s r → v ≡ keyword_value k → ValuePiece s r v
keyword_piece s r k v h e = plain_token s r v (a_keyword_here s r k v h e)

pub no_keyword_piece : (s t : Text) → begins_keyword s ≡ true → ReadsKeyword None s t → (r : Text) (v : Value) → ValuePiece s r v → ⊥
no_keyword_piece s t h n r v p = let (a, b) = keyword_parts s h in no_literal s r v (no_keyword_here s t r a b n) p

pub no_second : (c : ℕ) → is_identifier_char c ≡ true → (c == 34 || c == 35) ≡ false
unfolding is_identifier_char is_space is_newline_char is_banned is_punctuation
no_second c h = grind (arith, nat_tests)

keyword_there : {s r : Text} {k : Keyword} → IsKeyword s r k → begins_keyword s ≡ true
keyword_there x = let (c, t, e, i) = keyword_begins x in rw (e, no_second c i) refl

pub no_value : (s : Text) → begins_number s ≡ false → begins_keyword s ≡ false → ((r v : Text) → IsName s r v → ⊥) → (r : Text) (v : Value) → ValuePiece s r v → ⊥
no_value s h k f r v (IsLiteral.string n) = f r _ n
no_value s h k f r v (IsLiteral.plain (piece.number n e)) = let l = number_begins n in cc
no_value s h k f r v (IsLiteral.plain (piece.keyword x e)) = let l = keyword_there x in cc

-- literals
pub no_type_literal : (s m : Text) → s ≡ 40 ∷ m → ((r : Text) (y : TypeTest) → TypeRest m r y → ⊥) → (r : Text) (l : Literal) → IsLiteral s r l → ⊥
no_type_literal s m e h r l d = go r l (subst (λ z. IsLiteral z r l) e d)
  where
    go : (r : Text) (l : Literal) → IsLiteral (40 ∷ m) r l → ⊥
    go r l (IsLiteral.typed a) = h r _ a
    go r l (IsLiteral.string n) = no_name_at 40 m _ _ left_no_piece n
    go r l (IsLiteral.plain p) = no_plain_at 40 m _ _ left_no_piece p

-- `>` and `<` without a `=` after them
pub greater_here : (s m r : Text) → s ≡ 62 ∷ r → m ≡ s → begins_two 62 61 m ≡ false → IsComparison s r Greater
greater_here s m r e f h = let k : begins_two 62 61 (62 ∷ r) ≡ false = sym (ap (begins_two 62 61) (f ∙ e)) ∙ h in rw e (IsComparison.greater k)

pub less_here : (s m r : Text) → s ≡ 60 ∷ r → m ≡ s → begins_two 60 61 m ≡ false → IsComparison s r Less
less_here s m r e f h = let k : begins_two 60 61 (60 ∷ r) ≡ false = sym (ap (begins_two 60 61) (f ∙ e)) ∙ h in rw e (IsComparison.less k)

-- the error that `?` returns
pub on_exit : {A B : Type 0} {X : Text → Text → B → Type 0} {says : A → B} (o : Result A Refusal) (e : Refusal) (a b : Here) → IsErrAnd o (λ f. f ≡ e) → ReadsPiece X says (Err e) a b → ReadsPiece X says o a b
on_exit (Ok v) e a b h k = absurd h
on_exit {X = X} {says = says} (Err f) e a b h k = subst (λ z. ReadsPiece X says (Err z) a b) (sym h) k

-- a word that is not here
abbrev pub Misses : Text → Text → Text → Type 0
Misses w s t = ((r : Text) → s ≡ w ++ r → ⊥) × (t ≡ s)

pub no_words : (a b c d e f g : Text) → Misses (codes "val(") a b → Misses (codes "prop(") b c → Misses (codes "name(") c d → Misses (codes "tag(") d e → Misses (codes "values(") e f → Misses (codes "props(") f g → NoWord a
no_words a b c d e f g (i, h) (j, k) (l, m) (n, o) (p, q) (u, v) = record {
  val = i;
  prop = λ r x. j r (h ∙ x);
  name = λ r x. l r (k ∙ h ∙ x);
  tag = λ r x. n r (m ∙ k ∙ h ∙ x);
  values = λ r x. p r (o ∙ m ∙ k ∙ h ∙ x);
  props = λ r x. u r (q ∙ o ∙ m ∙ k ∙ h ∙ x);
}

pub still_at : {a b : Here} → b.rest ≡ a.rest → Moves a b → Still a b
still_at e m = record { rest = e; moves = m }

-- what follows an accessor, where it does not end
pub comparison_failed : {A : Type 0} (says : A → Test) (a : Accessor) (e : Refusal) (s m b : Here) → Ate 93 false s m → ReadsPiece {A = Comparison} IsComparison (λ x. x) (Err e) m b → ReadsPiece (AfterAccessor a) says (Err e) s b
comparison_failed says a e s m b (h, x) r =
    let k = still_looked x in
    after_still says (Err e) s m b k (refused says e m b r r.moves (no_comparison a m.rest (ap (begins 93) k.rest ∙ h)))

pub literal_failed : {A L : Type 0} (says : A → Test) (of : L → Literal) (a : Accessor) (c : Comparison) (e : Refusal) (s m d u b : Here) → Ate 93 false s m → ReadsPiece {A = Comparison} IsComparison (λ x. x) (Ok c) m d → Spaces d.rest u.rest → Moves d u → ReadsPiece (FittingLiteral a c) of (Err e) u b → ReadsPiece (AfterAccessor a) says (Err e) s b
literal_failed says of a c e s m d u b (h, x) r p v l =
    let k = still_looked x in
    after_still says (Err e) s m b k (refused says e m b l (moves_then r.moves (moves_then v l.moves)) (no_fitting a m.rest d.rest u.rest c (ap (begins 93) k.rest ∙ h) r.returns p))

pub bracket_failed : {A L : Type 0} (says : A → Test) (of : L → Literal) (a : Accessor) (c : Comparison) (l : L) (e : Refusal) (s m d u v b : Here) → Ate 93 false s m → ReadsPiece {A = Comparison} IsComparison (λ x. x) (Ok c) m d → Spaces d.rest u.rest → Moves d u → ReadsPiece (FittingLiteral a c) of (Ok l) u v → ReadsPiece (Closes 93) (λ x. x) (Err e) v b → ReadsPiece (AfterAccessor a) says (Err e) s b
bracket_failed says of a c l e s m d u v b (h, x) r p w f n =
    let k = still_looked x in
    after_still says (Err e) s m b k (refused says e m b n (moves_then r.moves (moves_then w (moves_then f.moves n.moves))) (no_test_end a m.rest d.rest u.rest v.rest c (of l) (ap (begins 93) k.rest ∙ h) r.returns p f.returns))

pub compared_read : {A L : Type 0} (says : A → Test) (of : L → Literal) (y : A) (a : Accessor) (c : Comparison) (l : L) (s m d u v b : Here) → says y ≡ compares a c (of l) → Ate 93 false s m → ReadsPiece {A = Comparison} IsComparison (λ x. x) (Ok c) m d → Spaces d.rest u.rest → Moves d u → ReadsPiece (FittingLiteral a c) of (Ok l) u v → ReadsPiece (Closes 93) (λ x. x) (Ok tt) v b → ReadsPiece (AfterAccessor a) says (Ok y) s b
compared_read says of y a c l s m d u v b q (h, x) r p w f n =
    after_still says (Ok y) s m b (still_looked x) (record {
      returns = subst (AfterAccessor a m.rest b.rest) (sym q) (AfterAccessor.compared r.returns p f.returns.literal f.returns.allowed n.returns);
      moves = moves_then r.moves (moves_then w (moves_then f.moves n.moves));
    })

-- the rest of a test, where something is asked
pub accessor_failed : {A C : Type 0} (says : A → Test) (of : C → Accessor) (e : Refusal) (s t m b : Here) → Spaces s.rest t.rest → Moves s t → Ate 93 false t m → ReadsPiece IsAccessor of (Err e) m b → ReadsPiece TestRest says (Err e) s b
accessor_failed says of e s t m b p v (h, x) r =
    let k = still_looked x in
    refused says e s b r (moves_then v (moves_then k.moves r.moves)) (no_test_accessor s.rest m.rest (subst (λ z. Spaces s.rest z) (sym k.rest) p) (ap (begins 93) k.rest ∙ h))

pub test_read : {A C : Type 0} (says : A → Test) (of : C → Accessor) (x : C) (o : Result A Refusal) (s t m u v b : Here) → Spaces s.rest t.rest → Moves s t → Ate 93 false t m → ReadsPiece IsAccessor of (Ok x) m u → Spaces u.rest v.rest → Moves u v → ReadsPiece (AfterAccessor (of x)) says o v b → ReadsPiece TestRest says o s b
test_read says of x o s t m u v b p i (h, y) r q j l =
    let k = still_looked y in
    record {
      returns = test_on says o v b s.rest m.rest u.rest v.rest (of x) (subst (λ z. Spaces s.rest z) (sym k.rest) p) r.returns q refl l.returns;
      moves = moves_then i (moves_then k.moves (moves_then r.moves (moves_then j l.moves)));
    }

-- one more test in a row
pub test_more : {A : Type 0} (says : A → Test) (xs ys : List A) (x : A) (f : Text) (a m b : Here) → Goes AreTests f (map says xs) a.rest → Took (Some 91) a m → ReadsPiece TestRest says (Ok x) m b → ys ≡ xs ++ x ∷ [] → Goes AreTests f (map says ys) b.rest
test_more says xs ys x f a m b g k r e =
    subst (λ z. Goes AreTests f z b.rest) (sym (ap (map says) e ∙ map-append says xs (x ∷ []))) (goes_on f a.rest b.rest (map says xs) (says x) g (subst (λ z. IsTest z b.rest (says x)) (sym k.0) r.returns))

pub test_failed : {A V : Type 0} (says : A → Test) (all : V → List Test) (xs : List Test) (e : Refusal) (f a m b : Here) → Goes AreTests f.rest xs a.rest → Moves f a → Took (Some 91) a m → ReadsPiece TestRest says (Err e) m b → ReadsPiece AreTests all (Err e) f b
test_failed says all xs e f a m b g v k r =
    refused all e f b r (moves_then v (moves_then (moves_one k) r.moves)) (λ n t ys w. goes_wrong f.rest a.rest t xs ys g (ap (begins 91) k.0) (λ u x d. n u x (subst (λ z. IsTest z u x) k.0 d)) w)

pub tests_end : {V : Type 0} (all : V → List Test) (v : V) (f a b : Here) → Goes AreTests f.rest (all v) a.rest → Moves f a → Ate 91 false a b → ReadsPiece AreTests all (Ok v) f b
tests_end all v f a b g m (h, x) =
    let k = still_looked x in
    record { returns = subst (λ z. AreTests f.rest z (all v)) (sym k.rest) (goes_end f.rest a.rest (all v) g h); moves = moves_then m k.moves }
