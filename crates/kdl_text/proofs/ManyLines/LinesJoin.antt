-- Lines of strings of many lines, one after another.
use Rattle.std.proofs.Common.{◌≡◌, ℕ, zero, suc, ◌+◌, true, false, List, [], ◌∷◌, ◌++◌, refl, sym, ap, ◌∙◌, subst, append_assoc}
use Rattle.std.proofs.lemmas.Bool.{and_parts, false≢true}
use Rattle.std.proofs.lemmas.List.Folds.{list_all-append}
use Rattle.std.specs.List.{list_all}
use Rattle.std.specs.Prelude.{Bool, Result}
use Rattle.kdl_text.specs.Chars.{Text}
use Rattle.kdl_text.specs.Dedent.{LineUnit, Literal, Escape, LineEnd, onto_first, lines_of}
use Rattle.kdl_text.specs.Internal.Here.{Here}
use Rattle.kdl_text.specs.Internal.Lines.{AreLines, no_lines, a_line, IsLine, LinesOf, ReadLine, ReadsOne, is_one_line}
use Rattle.kdl_text.specs.Raw.{RawContent, closing}
use Rattle.kdl_text.specs.declared.strings.StringFailure.{StringFailure}
use Rattle.kdl_text.specs.Internal.Reading.{Moves, Past, Goes}
use Rattle.kdl_text.specs.declared.strings.dedent.Line.{Line}
use Rattle.kdl_text.proofs.Looking.ValueGoes.{goes_start, goes_then}
use Rattle.kdl_text.proofs.Looking.SliceCost.{past_start, past_then}

cut_inside : (l : List LineUnit) → is_one_line l ≡ true → lines_of l ≡ l ∷ []
cut_inside [] h = refl
cut_inside (Literal c ∷ l) h = ap (onto_first (Literal c)) (cut_inside l h)
cut_inside (Escape c ∷ l) h = ap (onto_first (Escape c)) (cut_inside l h)
cut_inside (LineEnd ∷ l) h = absurd (false≢true h)

cut_line : (l ts : List LineUnit) → is_one_line l ≡ true → lines_of (l ++ (LineEnd ∷ ts)) ≡ l ∷ lines_of ts
cut_line [] ts h = refl
cut_line (Literal c ∷ l) ts h = ap (onto_first (Literal c)) (cut_line l ts h)
cut_line (Escape c ∷ l) ts h = ap (onto_first (Escape c)) (cut_line l ts h)
cut_line (LineEnd ∷ l) ts h = absurd (false≢true h)

-- lists, each with an e after it
abbrev pub ended : {A : Type 0} → A → List (List A) → List A
ended e [] = []
ended e (l ∷ ls) = l ++ (e ∷ ended e ls)

pub ended_more : {A : Type 0} (e : A) (ls : List (List A)) (l : List A) → ended e (ls ++ (l ∷ [])) ≡ ended e ls ++ (l ++ (e ∷ []))
ended_more e [] l = refl
ended_more e (k ∷ ls) l = ap (λ z. k ++ (e ∷ z)) (ended_more e ls l) ∙ sym (append_assoc k (e ∷ ended e ls) (l ++ (e ∷ [])))

lines_ended : (ls : List (List LineUnit)) (l : List LineUnit) → list_all is_one_line ls ≡ true → is_one_line l ≡ true → lines_of (ended LineEnd ls ++ l) ≡ ls ++ (l ∷ [])
lines_ended [] l h k = cut_inside l k
lines_ended (x ∷ ls) l h k =
    let (first, others) = and_parts (is_one_line x) (list_all is_one_line ls) h in
    ap lines_of (append_assoc x (LineEnd ∷ ended LineEnd ls) l) ∙ cut_line x (ended LineEnd ls ++ l) first ∙ ap (λ z. x ∷ z) (lines_ended ls l others k)

lines_more : {ls : List Line} {uss : List (List LineUnit)} (l : Line) {us : List LineUnit} → AreLines ls uss → IsLine l us → AreLines (ls ++ (l ∷ [])) (uss ++ (us ∷ []))
lines_more l no_lines i = a_line i no_lines
lines_more l (a_line j are) i = a_line j (lines_more l are i)

-- the lines read so far of an X
pub record InLines (X : Text → Text → List LineUnit → Type 0) (f a : Here) (ls : List Line) : Type 0 where
  pub units : List (List LineUnit)
  pub are : AreLines ls units
  pub goes : Goes X f.rest (ended LineEnd units) a.rest
  pub inside : list_all is_one_line units ≡ true
  pub past : Past 4 0 f a

pub lines_begin : (X : Text → Text → List LineUnit → Type 0) (f : Here) → InLines X f f []
lines_begin X f = record { units = []; are = no_lines; goes = goes_start X f.rest; inside = refl; past = past_start }

module _ (X : Text → Text → List LineUnit → Type 0) (f a b : Here) (ls : List Line) (l : Line) (i : InLines X f a ls) (m : Moves a b) (new : List Line) (e : new ≡ ls ++ (l ∷ [])) where
  -- a line and its newline
  pub lines_turn : ReadLine X l false a b → InLines X f b new
  lines_turn r =
      let (one, g) = r.reads in
      rw e (record {
        units = i.units ++ (r.units ∷ []);
        are = lines_more l i.are r.is;
        goes = subst (λ z. Goes X f.rest z b.rest) (sym (ended_more LineEnd i.units r.units)) (goes_then i.goes g);
        inside = rw (list_all-append is_one_line i.units (r.units ∷ []), i.inside, one) refl;
        past = past_then i.past (record { moves = m; costs = r.paid.costs });
      })

  -- the last line, and what ends an X
  pub lines_close : ReadLine X l true a b → ((us : List LineUnit) × X f.rest b.rest us × AreLines new (lines_of us)) × Past 4 0 f b
  lines_close r =
      let (one, x) = r.reads in
      rw e (
        (ended LineEnd i.units ++ r.units, i.goes.on b.rest r.units x, subst (AreLines (ls ++ (l ∷ []))) (sym (lines_ended i.units r.units i.inside one)) (lines_more l i.are r.is)),
        past_then i.past (record { moves = m; costs = r.paid.costs }),
      )

-- lines with number signs are those of a raw string
pub raw_one : (n : ℕ) {r : Result (Line × Bool) StringFailure} {a b : Here} → (n ≡ 0 → ⊥) → ReadsOne (RawContent (closing 3 n)) r a b → ReadsOne (LinesOf n) r a b
raw_one zero h x = absurd (h refl)
raw_one (suc n) h x = x
