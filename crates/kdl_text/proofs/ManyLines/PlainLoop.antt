-- Characters that represent themselves in a string of many lines, and what ends them.
use Rattle.std.proofs.Common.{◌≡◌, ℕ, ◌+◌, ◌≤◌, true, false, List, [], ◌∷◌, ◌++◌, refl, sym, ap, ◌∙◌, subst, arith, append_assoc, append-nil}
use Rattle.std.proofs.lemmas.Bool.{and_parts}
use Rattle.std.proofs.lemmas.List.{append_cancel_right}
use Rattle.std.proofs.lemmas.Str.{len_utf8_bounds}
use Rattle.std.specs.List.{list_all}
use Rattle.std.specs.Prelude.{Some, None}
use Rattle.kdl_text.specs.Dedent.{LineUnit, LineEnd}
use Rattle.kdl_text.specs.Chars.{Text, Newline, begins, begins_two, is_literal, is_newline_char}
use Rattle.kdl_text.specs.Internal.Here.{Here, Took, Ate, Skips, sliced}
use Rattle.kdl_text.specs.Spans.{bytes}
use Rattle.kdl_text.specs.Internal.Lines.{Paid, ReadsLine, is_one_line}
use Rattle.kdl_text.specs.MultiLine.{quote, line, Content, close}
use Rattle.kdl_text.specs.Raw.{literals}
use Rattle.kdl_text.specs.Internal.Reading.{Costs, Past, Goes}
use Rattle.kdl_text.proofs.RawStrings.ClosingPlaces.{literals-append}
use Rattle.kdl_text.proofs.Looking.ValueGoes.{goes_start, goes_then, goes_none}
use Rattle.kdl_text.proofs.Looking.MovesJoin.{stayed_looked, fewer_bytes, bytes-append, costs_less}
use Rattle.kdl_text.proofs.ManyLines.LinesUnique.{goes_content, content_empty, content_unit, literal_unit, no_unit}
use Rattle.kdl_text.proofs.Looking.SliceCost.{past_then, past_two, past_more, past_took, past_look, past_ran, past_after, past_four, moves_sliced}

pub literals_inside : (p : Text) → is_one_line (literals p) ≡ true
literals_inside [] = refl
literals_inside (c ∷ p) = literals_inside p

goes_literals : (p s r : Text) → list_all is_literal p ≡ true → s ≡ p ++ r → Goes Content s (literals p) r
goes_literals [] s r h e = rw e (goes_start Content r)
goes_literals (c ∷ p) s r h e =
    let (first, others) = and_parts (is_literal c) (list_all is_literal p) h in
    rw e (goes_then (goes_content (literal_unit c (p ++ r) first)) (goes_literals p (p ++ r) r others refl))

no_two : (s : Text) → begins 34 s ≡ false → begins_two 34 34 s ≡ false
no_two [] h = refl
no_two (c ∷ s) h = rw h refl

one_more : (s : Text) → begins 34 s ≡ false → begins_two 34 34 (34 ∷ s) ≡ false
one_more s h = h

-- what was read so far
pub record InPlain (f a : Here) : Type 0 where
  pub read : Text
  pub text : f.rest ≡ read ++ a.rest
  pub goes : Goes Content f.rest (literals read) a.rest
  pub past : Past 2 0 f a

-- a piece p of those more
plain_on : (f a b : Here) (p : Text) → InPlain f a → a.rest ≡ p ++ b.rest → Goes Content a.rest (literals p) b.rest → Past 2 0 a b → InPlain f b
plain_on f a b p i e g k = record {
  read = i.read ++ p;
  text = i.text ∙ ap (λ z. i.read ++ z) e ∙ sym (append_assoc i.read p b.rest);
  goes = subst (λ z. Goes Content f.rest z b.rest) (sym (literals-append i.read p)) (goes_then i.goes g);
  past = past_then i.past k;
}

module _ (f a : Here) (i : InPlain f a) (c : ℕ) (b : Here) (t : Took (Some c) a b) where
  -- a literal character, and a run of others
  pub plain_run : (d : Here) → is_literal c ≡ true → Skips is_literal b d → InPlain f d
  plain_run d h (run, r) =
      let e : a.rest ≡ (c ∷ run) ++ d.rest = t.0 ∙ ap (λ z. c ∷ z) r.text in
      let all : list_all is_literal (c ∷ run) ≡ true = rw (h, r.all) refl in
      plain_on f a d (c ∷ run) i e (goes_literals (c ∷ run) a.rest d.rest all e) (past_after t (past_two (past_ran r)))

  -- a quote alone
  pub plain_quote : (d : Here) → c ≡ 34 → Ate 34 false b d → InPlain f d
  plain_quote d is (n, l) =
      let s = stayed_looked b d l in
      let e : a.rest ≡ 34 ∷ d.rest = t.0 ∙ ap (λ z. z ∷ b.rest) is ∙ ap (λ z. 34 ∷ z) (sym s.rest) in
      let n' : begins 34 d.rest ≡ false = ap (begins 34) s.rest ∙ n in
      let quoted = subst (λ z. Goes Content z (literals (34 ∷ [])) d.rest) (sym e) (goes_content (quote (no_two d.rest n'))) in
      plain_on f a d (34 ∷ []) i e quoted (past_after t (past_two (past_look l)))

  -- two quotes alone
  pub plain_quotes : (d e : Here) → c ≡ 34 → Ate 34 true b d → Ate 34 false d e → InPlain f e
  plain_quotes d e is u (n, l) =
      let s = stayed_looked d e l in
      let n' : begins 34 e.rest ≡ false = ap (begins 34) s.rest ∙ n in
      let text : a.rest ≡ 34 ∷ 34 ∷ e.rest = t.0 ∙ ap (λ z. z ∷ b.rest) is ∙ ap (λ z. 34 ∷ z) u.0 ∙ ap (λ z. 34 ∷ 34 ∷ z) (sym s.rest) in
      let both : Goes Content (34 ∷ 34 ∷ e.rest) (literals (34 ∷ 34 ∷ [])) e.rest = goes_then (goes_content (quote (one_more e.rest n'))) (goes_content (quote (no_two e.rest n'))) in
      let quoted = subst (λ z. Goes Content z (literals (34 ∷ 34 ∷ [])) e.rest) (sym text) both in
      plain_on f a e (34 ∷ 34 ∷ []) i text quoted (past_then (past_two (past_took t)) (past_after u (past_two (past_look l))))

  whole : (p : Text) → f.rest ≡ p ++ a.rest → i.read ≡ p
  whole p e = append_cancel_right i.read p a.rest (sym i.text ∙ e)

  -- three quotes
  pub plain_close : (d g : Here) (p : Text) → c ≡ 34 → Ate 34 true b d → Ate 34 true d g → f.rest ≡ p ++ a.rest
      → ReadsLine Content true f.rest (literals p) g.rest × (bytes p + 1 + bytes g.rest ≤ bytes f.rest) × Past 2 0 f g
  plain_close d g p is u v e =
      let same = whole p e in
      let text : a.rest ≡ 34 ∷ 34 ∷ 34 ∷ g.rest = t.0 ∙ ap (λ z. z ∷ b.rest) is ∙ ap (λ z. 34 ∷ z) (u.0 ∙ ap (λ z. 34 ∷ z) v.0) in
      let found : Content f.rest g.rest (literals i.read) = subst (Content f.rest g.rest) (append-nil (literals i.read)) (i.goes.on g.rest [] (subst (λ z. Content z g.rest []) (sym text) close)) in
      rw (← same) (
        (literals_inside i.read, found),
        omega (arith, ap bytes i.text, bytes-append i.read a.rest, ap bytes t.0, ap bytes u.0, ap bytes v.0, (len_utf8_bounds c).0),
        past_then i.past (past_two (past_then (past_took t) (past_then (past_took u) (past_took v)))),
      )

  -- a backslash
  pub plain_escape : (p : Text) → c ≡ 92 → f.rest ≡ p ++ a.rest
      → Goes Content f.rest (literals p) (92 ∷ b.rest) × (bytes p + 1 + bytes b.rest ≤ bytes f.rest) × Past 2 0 f b
  plain_escape p is e =
      let same = whole p e in
      let text : a.rest ≡ 92 ∷ b.rest = t.0 ∙ ap (λ z. z ∷ b.rest) is in
      rw (← same) (
        subst (Goes Content f.rest (literals i.read)) text i.goes,
        omega (arith, ap bytes i.text, bytes-append i.read a.rest, ap bytes t.0, (len_utf8_bounds c).0),
        past_then i.past (past_two (past_took t)),
      )

  -- a newline
  pub plain_newline : (d : Here) (p : Text) → Newline (c ∷ b.rest) d.rest → Past 1 1 b d → f.rest ≡ p ++ a.rest
      → ReadsLine Content false f.rest (literals p) d.rest × (bytes p + 1 + bytes d.rest ≤ bytes f.rest) × Past 2 0 f d
  plain_newline d p n m e =
      let same = whole p e in
      let end : Goes Content a.rest (LineEnd ∷ []) d.rest = subst (λ z. Goes Content z (LineEnd ∷ []) d.rest) (sym t.0) (goes_content (line n)) in
      rw (← same) (
        (literals_inside i.read, goes_then i.goes end),
        omega (arith, ap bytes i.text, bytes-append i.read a.rest, ap bytes t.0, (len_utf8_bounds c).0, fewer_bytes m.moves),
        past_then i.past (past_after t (past_two m)),
      )

  -- a character that may not occur there
  pub plain_stuck : (c ≡ 34 → ⊥) → (c ≡ 92 → ⊥) → is_newline_char c ≡ false → is_literal c ≡ false → ((r : Text) (us : List LineUnit) → Content f.rest r us → ⊥) × Past 4 1 f b
  plain_stuck x34 x92 nl lit = (
    λ r us x.
        let (v, e, rest) = i.goes.back r us x in
        let (m, ws, there) = content_unit x34 (subst (λ z. Content z r v) t.0 rest) in
        no_unit x34 x92 nl lit there,
    past_four (past_more (omega arith) (past_then i.past (past_two (past_took t)))),
  )

-- the end of the text
pub plain_over : (f a b : Here) → InPlain f a → Took None a b → ((r : Text) (us : List LineUnit) → Content f.rest r us → ⊥) × Past 4 1 f b
plain_over f a b i t = (
  λ r us. goes_none i.goes (λ s w z. content_empty (subst (λ q. Content q s w) t.0 z)) r us,
  past_four (past_then i.past (past_two (past_look t.1))),
)

-- the piece p was read, and sliced for two readers
pub paid_twice : (p : Text) (f g : Here) → bytes p + 1 + bytes g.rest ≤ bytes f.rest → Past 2 0 f g → Paid f (sliced p (sliced p g)) × Past 4 1 f (sliced p (sliced p g))
paid_twice p f g s k =
    let costs : Costs 4 0 f (sliced p (sliced p g)) = record { most = omega (arith, k.costs.most, s); least = omega (arith, k.costs.least) } in
    (record { shorter = omega (arith, s); costs = costs }, record { moves = moves_sliced p f (sliced p g) (sliced p (sliced p g)) refl (moves_sliced p f g (sliced p g) refl k.moves); costs = costs_less costs })
