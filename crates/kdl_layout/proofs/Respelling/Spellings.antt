-- Texts that are a whole string, number or keyword, and what they are before other text.
use Rattle.kdl_layout.proofs.Common.{◌≡◌, Bool, true, false, [], ◌++◌, Some, Ok, refl, sym, ap, subst, ◌∙◌, append-nil, IsTrue, String, Global, list_all, Text, is_scalar, plus, Here, Keyword, True, NodeSpace, ValueEnd, Value, text, print_value, spelled, KdlValue, IsWellFormed, Cuts, one, spaces, kind_view, TokenKind, BeginsToken, NoToken, t_space, t_string, t_value, no_token, token_det, same_piece, IsString, IsPlainValue, a_string, a_plain, IsIdentifierText, printed_string, printed_value, move_string, IsSpelling}
use Rattle.kdl_text.specs.Numbers.{whole_value, decimal_text}
use Rattle.kdl_text.specs.Trivia.ValueEnd.{nothing}
use Rattle.kdl_value.specs.Tree.{text_value}
use Rattle.kdl_syntax.specs.Internal.Handed.{HandsOver, LexedNext}
use Rattle.kdl_syntax.specs.Pieces.{PlainPiece, keyword_value}
use Rattle.kdl_syntax.specs.declared.lexer.TokenKind.TheVariants.{String as StringKind, Value as ValueKind}
use Rattle.kdl_syntax.specs.Tokens as tokens
use Rattle.kdl_syntax.specs.declared.lexer.NextToken.{NextToken}
use Rattle.kdl_syntax.specs.declared.lexer.NextToken.TheVariants.{Space as Spaces, Newline as Lines, Word, Other, End}
use Rattle.kdl_syntax.specs.declared.lexer.Token.{Token}
use Rattle.kdl_syntax.specs.declared.token_span.TokenSpan.{TokenSpan}
use Rattle.kdl_syntax.proofs.Lexing.StringUnique.{string_det, string_or_plain, plain_det}
use Rattle.kdl_entry.specs.Entries.{string}
use Rattle.kdl_entry.proofs.Moving.EntryMoves.{move_plain}

-- before each text with a value end
pub string_before : (t s r : Text) → IsIdentifierText t s → ValueEnd true r → IsString true (t ++ r) r s
string_before t s r d e =
    let m = move_string d in
    subst (λ (z : Text). IsString true z r s) (same_piece t m.at (sym (append-nil t)) r) (m.there r e)

pub value_before : (v : Value) (t r : Text) → IsSpelling v t → ValueEnd true r → IsPlainValue true (t ++ r) r v
value_before v t r d e =
    let m = move_plain d in
    subst (λ (z : Text). IsPlainValue true z r v) (same_piece t m.at (sym (append-nil t)) r) (m.there r e)

-- what is printed without a spelling
pub printed_name : (s : Text) → list_all is_scalar s ≡ true → IsIdentifierText (spelled s) s
printed_name s ok = subst (λ (z : Text). IsString true z [] s) (append-nil (spelled s)) (printed_string s [] ok nothing)

pub printed_spelling : (v : Value) → IsWellFormed v → IsSpelling v (print_value v)
printed_spelling v ok = subst (λ (z : Text). IsPlainValue true z [] v) (append-nil (print_value v)) (printed_value v [] ok nothing)

-- a text spells one value
pub one_value : (t : Text) (v w : Value) → IsSpelling v t → IsSpelling w t → v ≡ w
one_value t _ _ (a_string (string p e)) (a_string (string q f)) = ap text (string_det p q).1
one_value t _ _ (a_plain p e) (a_plain q f) = (plain_det p q).1
one_value t _ _ (a_string (string p e)) (a_plain q f) = absurd (string_or_plain p q)
one_value t _ _ (a_plain q f) (a_string (string p e)) = absurd (string_or_plain p q)

-- a number or a keyword is no string
plain_no_text : {s r w : Text} {v : Value} → PlainPiece s r v → v ≡ text w → ⊥
plain_no_text (PlainPiece.number {n = whole_value z} p e) h = let x = sym e ∙ h in cc
plain_no_text (PlainPiece.number {n = decimal_text z} p e) h = let x = sym e ∙ h in cc
plain_no_text (PlainPiece.keyword {k = k} p e) h = no k (sym e ∙ h)
  where
    no : (k : Keyword) {w : Text} → keyword_value k ≡ text w → ⊥
    no True h = cc
    no _ h = cc

-- a text is a string exactly if it spells that
pub text_same : {u w : Text} → text u ≡ text w → u ≡ w
text_same h = cc

spelled_text : {t s : Text} {v : Value} → IsSpelling v t → v ≡ text s → IsIdentifierText t s
spelled_text {t = t} (a_string d) h = subst (λ (z : Text). IsIdentifierText t z) (text_same h) d
spelled_text (a_plain p e) h = absurd (plain_no_text p h)

pub text_spelling : (t s : Text) → IsSpelling (text s) t → IsIdentifierText t s
text_spelling t s d = spelled_text d refl

pub spelling_text : (t s : Text) → IsIdentifierText t s → IsSpelling (text s) t
spelling_text t s d = a_string d

-- a token that is a string, a number or a keyword
abbrev pub IsValueToken : tokens.Token → Type 0
IsValueToken (tokens.string s) = Unit {0}
IsValueToken (tokens.value v) = Unit {0}
IsValueToken _ = ⊥

-- where a token was cut off, the text spells a value only if the token is a string, a number or a keyword, and the text ends after it
begun : {t r q : Text} {k j : tokens.Token} → BeginsToken t k r → BeginsToken t j q → q ≡ [] → IsValueToken j → (r ≡ []) × IsValueToken k
begun p q e j = let x = token_det p q in (x.0 ∙ e, subst IsValueToken (sym x.1) j)

no_spelling : {t r : Text} {v : Value} → NodeSpace t r → IsSpelling v t → ⊥
no_spelling n (a_string (string p e)) = let x = (token_det (t_space n) (t_string p)).1 in cc
no_spelling n (a_plain p e) = let x = (token_det (t_space n) (t_value p)).1 in cc

pub cut_spelling : {t r : Text} {k : tokens.Token} {v : Value} → Cuts t k r → IsSpelling v t → (r ≡ []) × IsValueToken k
cut_spelling (one u) (a_string (string p e)) = begun u (t_string p) refl tt
cut_spelling (one u) (a_plain p e) = begun u (t_value p) refl tt
cut_spelling (spaces (plus n m)) d = absurd (no_spelling n d)

-- and it spells that
pub cut_string : (t r s : Text) → Cuts t (tokens.string s) r → r ≡ [] → IsSpelling (text s) t
cut_string t r s (one (t_string p)) e = subst (λ (z : Text). IsPlainValue true t z (text s)) e (a_string (string p (subst (λ (z : Text). ValueEnd true z) (sym e) nothing)))

pub cut_value : (t r : Text) (v : Value) → Cuts t (tokens.value v) r → r ≡ [] → IsSpelling v t
cut_value t r v (one (t_value p)) e = subst (λ (z : Text). IsPlainValue true t z v) e (a_plain p (subst (λ (z : Text). ValueEnd true z) (sym e) nothing))

pub other_kind : (k : TokenKind) → IsValueToken (kind_view k) → ((s : String Global) → k ≡ StringKind s → ⊥) → ((v : KdlValue) → k ≡ ValueKind v → ⊥) → ⊥
other_kind (StringKind s) h m n = m s refl
other_kind (ValueKind v) h m n = n v refl
other_kind _ h m n = h

-- what was handed out
handed_cut : (s : Text) (old new : Here) (k : tokens.Token) (at : TokenSpan) → old.rest ≡ s → HandsOver old k at new → Cuts s k at.end.rest
handed_cut s old new k at e h = subst (λ (z : Text). Cuts z k at.end.rest) e (subst (λ (z : Text). Cuts old.rest k z) (sym h.end_rest) h.cuts)

pub next_word : (s : Text) (old new : Here) (w : Text) (at : TokenSpan) → old.rest ≡ s → LexedNext old (Ok (Word w at)) new → Cuts s (tokens.string w) at.end.rest
next_word s old new w at e h = handed_cut s old new (tokens.string w) at e h.0

pub next_other : (s : Text) (old new : Here) (k : Token) → old.rest ≡ s → LexedNext old (Ok (Other k)) new → Cuts s (kind_view k.kind) k.at.end.rest
next_other s old new k e h = handed_cut s old new (kind_view k.kind) k.at e h

-- what a read text spells
pub no_end : (b : Bool) (P : Type 0) → b ≡ false → (P → IsTrue b) → P → ⊥
no_end b P e f p = let h : IsTrue b = f p in let z : false ≡ true = sym e ∙ h in cc

pub spaces_spell : (t : Text) (old new : Here) (r : NextToken) → old.rest ≡ t → LexedNext old (Ok r) new
    → ((w : Text) (at : TokenSpan) → r ≡ Word w at → ⊥) → ((k : Token) → r ≡ Other k → ⊥) → (v : Value) → IsSpelling v t → ⊥
spaces_spell t old new (Spaces at) e h m n v d = (cut_spelling (subst (λ (z : Text). Cuts z tokens.space new.rest) e h.cuts) d).1
spaces_spell t old new (Lines at) e h m n v d = (cut_spelling (subst (λ (z : Text). Cuts z tokens.newline new.rest) e h.cuts) d).1
spaces_spell t old new (Word w at) e h m n v d = m w at refl
spaces_spell t old new (Other k) e h m n v d = n k refl
spaces_spell t old new End e h m n v d = nothing_spells (subst (λ (z : Text). IsSpelling v z) (sym e ∙ h) d)
  where
    nothing_spells : {v : Value} → IsSpelling v [] → ⊥
    nothing_spells (a_string (string p e)) = no_token (t_string p)
    nothing_spells (a_plain p e) = no_token (t_value p)

pub faulty_spells : (t : Text) (old : Here) → old.rest ≡ t → NoToken old.rest → (v : Value) → IsSpelling v t → ⊥
faulty_spells t old e h v d = none (subst (λ (z : Text). IsSpelling v z) (sym e) d)
  where
    none : {v : Value} → IsSpelling v old.rest → ⊥
    none (a_string (string p e)) = h.none _ _ (t_string p)
    none (a_plain p e) = h.none _ _ (t_value p)

-- whether it spells a string or a value
pub decides_text : (t s : Text) (v : Value) (b : Bool) → IsSpelling v t → (IsTrue b → v ≡ text s) × (v ≡ text s → IsTrue b) → (IsTrue b → IsIdentifierText t s) × (IsIdentifierText t s → IsTrue b)
decides_text t s v b d h = (λ e. text_spelling t s (subst (λ (z : Value). IsSpelling z t) (h.0 e) d), λ i. h.1 (one_value t v (text s) d (spelling_text t s i)))

pub decides_value : (t : Text) (v w : Value) (b : Bool) → IsSpelling w t → (IsTrue b → w ≡ v) × (w ≡ v → IsTrue b) → (IsTrue b → IsSpelling v t) × (IsSpelling v t → IsTrue b)
decides_value t v w b d h = (λ e. subst (λ (z : Value). IsSpelling z t) (h.0 e) d, λ i. h.1 (one_value t w v d i))

-- the string of a value
pub text_value_is : (v : Value) (s : Text) → Some s ≡ text_value v → v ≡ text s
text_value_is (text t) s e = let x : t ≡ s = cc in ap text x
text_value_is _ s e = absurd cc
