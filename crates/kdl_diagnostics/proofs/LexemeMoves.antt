-- Where lexemes are.
use Rattle.std.proofs.Common.{◌≡◌, ◌+◌, ◌<◌, ℕ, [], ◌∷◌, refl, ap, subst, ◌∙◌, Bool, true, false, ◌||◌, ◌==◌, arith}
use Rattle.std.proofs.lemmas.Bool.{eqb-true}
use Rattle.std.proofs.lemmas.Str.{len_utf8_bounds}
use Rattle.kdl_text.proofs.Looking.MovesJoin.{bytes-append}
use Rattle.std.specs.Prelude.{Option, Some}
use Rattle.kdl_text.specs.Chars.{Text, is_number_sign, starts}
use Rattle.kdl_text.specs.Internal.Here.{Here, IsPart, Position, Ran, Skips, first, looked}
use Rattle.kdl_text.specs.Internal.Reading.{Moves}
use Rattle.kdl_text.specs.Spans.{bytes}
use Rattle.kdl_diagnostics.specs.Internal.Reading.{EndsIn, FindsAlso, IsEnd, IsLexeme, Lexes, OnFound, Past, Reads, Since, Stands, begins_sign}
use Rattle.kdl_diagnostics.specs.declared.lexemes.Lexeme.{Lexeme}
use Rattle.kdl_diagnostics.specs.declared.strings.Found.{Found}
use Rattle.kdl_diagnostics.proofs.Passing.{ends_in, since_here, reads_then}

-- a cursor that moves on in a lexeme
pub past_from : {place : Position} {a b : Here} → place.rest ≡ a.rest → IsPart a.text place.rest → Moves a b → bytes b.rest < bytes a.rest → Past place b
past_from e i m few = record { since = since_here e i m; went = omega (arith, few, ap bytes e) }

pub end_in : {s : Text} {a b : Here} (e : Position × Option Position) → s ≡ a.rest → Moves a b → IsEnd b e → EndsIn s e
end_in e x m i = ends_in _ _ e (m.piece.0, x ∙ m.piece.1) i.ends

-- a lexeme that the cursor passed
pub lexes : {k c : ℕ} {s : Text} {p : Lexeme} {a b : Here} → s ≡ a.rest → Stands s p → Reads k c a b → bytes b.rest < bytes a.rest → Lexes k c a p b
lexes {p = p} e i r few = record { lexeme = record { stands = subst (λ t. Stands t p) e i; went = few }; reads = r }

pub lexes_word : {k c : ℕ} {s : Text} {p : Lexeme} {a b : Here} → s ≡ a.rest → IsLexeme s p b → Reads k c a b → Lexes k c a p b
lexes_word {p = p} {b = b} e x r = record { lexeme = subst (λ s. IsLexeme s p b) e x; reads = r }

-- the same, where something was looked at before
pub lexes_after : {k c d : ℕ} {p : Lexeme} {a b e : Here} → Reads k c a b → b.rest ≡ a.rest → Lexes k d b p e → Lexes k (c + d) a p e
lexes_after {p = p} {e = e} r h x = record { lexeme = subst (λ s. IsLexeme s p e) h x.lexeme; reads = reads_then r x.reads }

-- the fault of a string that begins at the place: the one in it, or one at its start
pub found_in_phase : {place : Position} {a : Here} (f g : Option Found) → Since place a → OnFound place.rest f a.rest → FindsAlso f place g → OnFound place.rest g a.rest
found_in_phase f g x on also = also _ _ on (record { before = ([], refl); following = x.before })

or_right : (a b : Bool) → (a || b) ≡ true → a ≡ false → b ≡ true
or_right true b x y = cc
or_right false b x y = x

-- what begins as a string or a keyword has a number sign, if no quote is after its number signs
pub signs_fewer : (a b m : Here) → starts begins_sign a.rest ≡ true → Skips is_number_sign a b → m ≡ looked b → (first b.rest ≡ Some 34 → ⊥) → bytes m.rest < bytes a.rest
signs_fewer a b m h (run, r) l n = go run r
  where
    quoted : (s : Text) → starts begins_sign s ≡ true → starts is_number_sign s ≡ false → first s ≡ Some 34
    quoted [] x y = cc
    quoted (c ∷ s) x y = ap Some (eqb-true c 34 (or_right (is_number_sign c) (c == 34) x y))

    go : (run : Text) → Ran is_number_sign run a b → bytes m.rest < bytes a.rest
    go [] r = absurd (n (quoted b.rest (subst (λ s. starts begins_sign s ≡ true) r.text h) r.stops))
    go (c ∷ run) r = omega (arith, ap bytes r.text, bytes-append run b.rest, (len_utf8_bounds c).0, ap (λ z. bytes z.rest) l)
