-- What the first token of a text says of it as an identifier.
use Rattle.std.proofs.Common.{◌≡◌, true, [], Err, refl, sym, ap, subst, ◌∙◌}
use Rattle.std.specs.Prelude.{String}
use Rattle.std.specs.declared.alloc.Global.{Global}
use Rattle.kdl_text.specs.Chars.{Text, plus}
use Rattle.kdl_text.specs.Internal.Here.{Here}
use Rattle.kdl_text.specs.Trivia.{ValueEnd}
use Rattle.kdl_text.specs.Trivia.ValueEnd.{nothing}
use Rattle.kdl_syntax.specs.Pieces.{StringPiece}
use Rattle.kdl_entry.specs.Entries.{IsString, string, IsIdentifierText}
use Rattle.kdl_syntax.specs.Internal.Handed.{Cuts, one, spaces, HandsOut, Lexed, kind_view}
use Rattle.kdl_entry.specs.Internal.IdentifierReading.{AnswersIdentifierText}
use Rattle.kdl_entry.specs.Internal.Parts.{identifier_at}
use Rattle.kdl_entry.specs.Laid.{LaidIdentifier, LaidIdentifierText, spelled}
use Rattle.kdl_entry.specs.Places.{Is, between}
use Rattle.kdl_syntax.specs.Tokens as tokens
use Rattle.kdl_syntax.specs.Tokens.{BeginsToken, t_space, t_string}
use Rattle.kdl_value.specs.Tree.{text_of}
use Rattle.kdl_entry.specs.Tree.{Identifier}
use Rattle.kdl_syntax.specs.declared.lexer.LexFailure.{LexFailure}
use Rattle.kdl_syntax.specs.declared.lexer.LexFailure.TheVariants.{Faulty, Memory}
use Rattle.kdl_syntax.specs.declared.lexer.Token.{Token as CodeToken}
use Rattle.kdl_syntax.specs.declared.lexer.TokenKind.{TokenKind}
use Rattle.kdl_syntax.specs.declared.lexer.TokenKind.TheVariants.{String as StringKind}
use Rattle.kdl_syntax.proofs.Lexing.TokenUnique.{no_token, token_det}
use Rattle.kdl_entry.proofs.Slicing.Placing.{place}
use Rattle.kdl_syntax.proofs.Lexing.StringUnique.{string_end}

the_token : {t v : Text} → IsIdentifierText t v → BeginsToken t (tokens.string v) []
the_token (string p e) = t_string p

-- where a token was handed out, the text is an identifier only if the token is its string, and the text ends after it
is_string : {t r v : Text} {k : tokens.Token} → Cuts t k r → IsIdentifierText t v → (r ≡ []) × (k ≡ tokens.string v)
is_string (one u) d = token_det u (the_token d)
is_string (spaces (plus n m)) d = let x = (token_det (t_space n) (the_token d)).1 in absurd cc

laid_whole : {t r v : Text} → Cuts t (tokens.string v) r → r ≡ [] → LaidIdentifierText (identifier_at t v t r) t
laid_whole {t = t} {r = r} {v = v} (one (t_string p)) e = subst (λ (z : Text). LaidIdentifier true t (identifier_at t v t r) t z) e (spelled (at_end r p e) refl)
  where
    at_end : (r : Text) → StringPiece t r v → r ≡ [] → Is (λ s q. IsString true s q v) (between t r) t r
    at_end r p e = place (string p (subst (λ (z : Text). ValueEnd true z) (sym e) nothing)) (string_end p)

-- where no token begins
pub no_token_told : (t : Text) (old new : Here) (e : LexFailure) → old.rest ≡ t → Lexed old (Err e) new → AnswersIdentifierText t (Err e)
no_token_told t old new Faulty e x = λ v d. x.none _ _ (subst (λ (z : Text). BeginsToken z (tokens.string v) []) (sym e) (the_token d))
no_token_told t old new Memory e x = tt

-- where the text is empty
pub empty_told : (t : Text) (old : Here) → old.rest ≡ t → old.rest ≡ [] → AnswersIdentifierText t (Err Faulty)
empty_told t old e n = λ v d. no_token (subst (λ (z : Text). BeginsToken z (tokens.string v) []) (sym e ∙ n) (the_token d))

string_kind : (k : TokenKind) (v : Text) → kind_view k ≡ tokens.string v → ((s : String Global) → k ≡ StringKind s → ⊥) → ⊥
string_kind (StringKind s) v e n = n s refl
string_kind _ v e n = cc

-- where the first token is no string
pub other_told : (t : Text) (old mid : Here) (k : CodeToken) → old.rest ≡ t → HandsOut old k mid → ((s : String Global) → k.kind ≡ StringKind s → ⊥) → AnswersIdentifierText t (Err Faulty)
other_told t old mid k e h n = λ v d. string_kind k.kind v (is_string (rw e at h.cuts) d).1 n

-- where the text goes on after the first token
pub more_told : (t : Text) (old mid : Here) (k : CodeToken) → old.rest ≡ t → HandsOut old k mid → (k.at.end.rest ≡ [] → ⊥) → AnswersIdentifierText t (Err Faulty)
more_told t old mid k e h n = λ v d. n (h.end_rest ∙ (is_string (rw e at h.cuts) d).0)

-- where the first token is a string, and the text ends after it
pub whole_laid : (t : Text) (old mid : Here) (k : CodeToken) (s : String Global) (i : Identifier) → old.rest ≡ t → HandsOut old k mid → k.kind ≡ StringKind s → k.at.end.rest ≡ []
    → i ≡ identifier_at t (text_of s) k.at.start.rest k.at.end.rest → LaidIdentifierText i t
whole_laid t old mid k s i e h x n y =
    let c : Cuts old.rest (tokens.string (text_of s)) mid.rest = subst (λ (z : tokens.Token). Cuts old.rest z mid.rest) (ap kind_view x) h.cuts in
    let l = laid_whole (subst (λ (z : Text). Cuts z (tokens.string (text_of s)) mid.rest) e c) (sym h.end_rest ∙ n) in
    subst (λ (z : Identifier). LaidIdentifierText z t) (sym (rw (h.start_rest, e, h.end_rest) at y)) l
