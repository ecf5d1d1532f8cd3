-- The tokens of small texts, and what the machine returns over them.
use Rattle.std.proofs.Common.{◌≡◌, ℕ, true, false, List, [], ◌∷◌, Option, Some, None, option_map, option_and_then, refl, sym, ap, subst, ◌∙◌}
use Rattle.std.specs.Prelude.{pos}
use Rattle.std.specs.Str.Parse.{digits_value}
use Rattle.kdl_text.specs.Chars.{Text, starts, begins, begins_with, is_identifier_char, is_space, is_newline_char, is_sign}
use Rattle.kdl_text.specs.Bare.{is_bare}
use Rattle.kdl_text.specs.Numbers.{is_digit_of, is_part, base_prefix, fits}
use Rattle.kdl_text.specs.Trivia.{NodeSpace, Break}
use Rattle.kdl_entry.specs.Data as entry_data'
use Rattle.kdl_value.specs.Data.{Value, integer, truth}
use Rattle.kdl_syntax.specs.Pieces.{StringPiece, PlainPiece}
use Rattle.kdl_syntax.specs.Tokens.{Token, space, newline, slashdash, string, value, left, right, opening, closing, equals, semicolon, bom, BeginsToken, t_space, t_newline, t_slashdash, t_string, t_value, t_left, t_right, t_opening, t_closing, t_equals, t_semicolon, t_bom}
use Rattle.kdl_syntax.proofs.Lexing.TokenUnique.{token_det, no_token}
use Rattle.kdl_grammar.specs.Data.{Node, node, no_children, children, Nodes, none, first}
use Rattle.kdl_grammar.specs.Grammar.{IsDocument, IsDocumentIn}
use Rattle.kdl_grammar.specs.Internal.Machine.{State, step, finish, initial, Runs, stops, reads, AnswersDocument}
use Rattle.kdl_grammar.specs.Tree.{Document, document_data}
use Rattle.kdl_grammar.proofs.Reading.Complete.{built}
use Rattle.kdl_grammar.proofs.Reading.Erased.{sound, sound_runs}

-- the tokens of a text, each with what follows it
pub data Cut : Text → List (Token × Text) → Type 0 where
  end : Cut [] []
  next : {s r : Text} {k : Token} {ks : List (Token × Text)} → BeginsToken s k r → Cut r ks → Cut s ((k, r) ∷ ks)

abbrev pub run : Text → State → Text → List (Token × Text) → Option Document
run whole st s [] = finish whole st
run whole st s ((k, r) ∷ ks) = option_and_then (λ st'. run whole st' r ks) (step whole st k s r)

pub runs_of : {whole s : Text} {ks : List (Token × Text)} → Cut s ks → (st : State) (d : Document) → run whole st s ks ≡ Some d → Runs whole d st s
runs_of end st d e = stops e
runs_of {whole = whole} {s = s} (next {r = r} {k = k} {ks = ks} t l) st d e = go (λ st' e. runs_of l st' d e) (step whole st k s r) refl e
  where
    go : ((st' : State) → run whole st' r ks ≡ Some d → Runs whole d st' r) → (o : Option State) → step whole st k s r ≡ o → option_and_then (λ st'. run whole st' r ks) o ≡ Some d → Runs whole d st s
    go i None f e = cc
    go i (Some st') f e = reads t f (i st' e)

pub of_runs : {whole s : Text} {ks : List (Token × Text)} {st : State} {d : Document} → Cut s ks → Runs whole d st s → run whole st s ks ≡ Some d
of_runs end (stops e) = e
of_runs end (reads t e a) = absurd (no_token t)
of_runs (next t l) (stops e) = absurd (no_token t)
of_runs {whole = whole} {s = s} {st = st} {d = x} (next {r = r} {k = k} {ks = ks} t l) (reads {st' = m} {r = r'} {k = k'} u e a) =
    let d = token_det t u in
    let f : step whole st k s r ≡ Some m = cc in
    ap (option_and_then (λ st'. run whole st' r ks)) f ∙ of_runs l (subst (λ z. Runs whole x m z) (sym d.0) a)

pub some_document : (o : Option Document) (x : Nodes) → option_map document_data o ≡ Some x → (d : Document) × (o ≡ Some d) × (document_data d ≡ x)
some_document None x e = cc
some_document (Some d) x e = (d, refl, cc)

-- where the machine returns over its tokens, the text is a document with that data
pub derived : {t : Text} {ks : List (Token × Text)} → Cut t ks → (x : Nodes) → option_map document_data (run t (initial t) t ks) ≡ Some x → IsDocument t x
derived {t = t} {ks = ks} l x e =
    let d = some_document (run t (initial t) t ks) x e in
    subst (λ (z : Nodes). IsDocument t z) d.2 (sound t d.0 (AnswersDocument.no_bom (runs_of l (initial t) d.0 d.1))).1

-- the same after U+FEFF
pub derived_after_bom : {t : Text} {ks : List (Token × Text)} → Cut t ks → (x : Nodes) → option_map document_data (run (0xFEFF ∷ t) (initial t) t ks) ≡ Some x → IsDocument (0xFEFF ∷ t) x
derived_after_bom {t = t} {ks = ks} l x e =
    let d = some_document (run (0xFEFF ∷ t) (initial t) t ks) x e in
    let r = sound_runs (0xFEFF ∷ t) (runs_of l (initial t) d.0 d.1) in
    IsDocumentIn.after_bom (subst (λ (z : Nodes). Rattle.kdl_grammar.specs.Grammar.AreNodes true t [] z) d.2 r.1)

pub refused_answer : {t : Text} {ks : List (Token × Text)} {d : Document} → Cut t ks → begins 0xFEFF t ≡ false → run t (initial t) t ks ≡ None → AnswersDocument t d → ⊥
refused_answer l b e (AnswersDocument.no_bom a) = let x = of_runs l a in cc
refused_answer l b e (AnswersDocument.after_bom a) = cc

-- where the machine refuses them, it is none
pub refused : {t : Text} {ks : List (Token × Text)} → Cut t ks → begins 0xFEFF t ≡ false → run t (initial t) t ks ≡ None → (x : Nodes) → IsDocument t x → ⊥
refused l b e x i = refused_answer l b e (built i).answers

-- tokens of one form each
pub blank : {r : Text} {ks : List (Token × Text)} → Cut r ks → Cut (32 ∷ r) ((space, r) ∷ ks)
unfolding is_space
blank l = next (t_space (NodeSpace.ws (Rattle.kdl_text.specs.Trivia.Ws.space (Rattle.kdl_text.specs.Chars.Space.space refl)))) l

pub line_feed : {r : Text} {ks : List (Token × Text)} → Cut r ks → Cut (10 ∷ r) ((newline, r) ∷ ks)
unfolding is_newline_char
line_feed l = next (t_newline (Break.newline (Rattle.kdl_text.specs.Chars.Newline.one refl refl))) l

pub block : {r : Text} {ks : List (Token × Text)} → Cut r ks → Cut (47 ∷ 42 ∷ 42 ∷ 47 ∷ r) ((space, r) ∷ ks)
block l = next (t_space (NodeSpace.ws (Rattle.kdl_text.specs.Trivia.Ws.comment (Rattle.kdl_text.specs.Trivia.BlockComment.block Rattle.kdl_text.specs.Trivia.Parts.close)))) l

pub comment : {r : Text} {ks : List (Token × Text)} → Cut r ks → Cut (47 ∷ 47 ∷ 10 ∷ r) ((newline, r) ∷ ks)
unfolding is_newline_char
comment l = next (t_newline (Break.comment (Rattle.kdl_text.specs.Trivia.LineComment.line (Rattle.kdl_text.specs.Trivia.Line.newline (Rattle.kdl_text.specs.Chars.Newline.one refl refl))))) l

pub escline_ : {r : Text} {ks : List (Token × Text)} → Cut r ks → Cut (92 ∷ 10 ∷ r) ((space, r) ∷ ks)
unfolding is_newline_char
escline_ l = next (t_space (NodeSpace.escline (Rattle.kdl_text.specs.Trivia.Escline.escline Rattle.kdl_text.specs.Chars.Star.none (Rattle.kdl_text.specs.Trivia.EscEnd.newline (Rattle.kdl_text.specs.Chars.Newline.one refl refl))))) l

pub dash : {r : Text} {ks : List (Token × Text)} → Cut r ks → Cut (47 ∷ 45 ∷ r) ((slashdash, r) ∷ ks)
dash l = next t_slashdash l

pub open_paren : {r : Text} {ks : List (Token × Text)} → Cut r ks → Cut (40 ∷ r) ((left, r) ∷ ks)
open_paren l = next t_left l

pub close_paren : {r : Text} {ks : List (Token × Text)} → Cut r ks → Cut (41 ∷ r) ((right, r) ∷ ks)
close_paren l = next t_right l

pub open_brace : {r : Text} {ks : List (Token × Text)} → Cut r ks → Cut (123 ∷ r) ((opening, r) ∷ ks)
open_brace l = next t_opening l

pub close_brace : {r : Text} {ks : List (Token × Text)} → Cut r ks → Cut (125 ∷ r) ((closing, r) ∷ ks)
close_brace l = next t_closing l

pub equals_sign : {r : Text} {ks : List (Token × Text)} → Cut r ks → Cut (61 ∷ r) ((equals, r) ∷ ks)
equals_sign l = next t_equals l

pub semi : {r : Text} {ks : List (Token × Text)} → Cut r ks → Cut (59 ∷ r) ((semicolon, r) ∷ ks)
semi l = next t_semicolon l

pub a_bom : {r : Text} {ks : List (Token × Text)} → Cut r ks → Cut (0xFEFF ∷ r) ((bom, r) ∷ ks)
a_bom l = next t_bom l

pub empty : {r : Text} {ks : List (Token × Text)} → begins_with (34 ∷ 34 ∷ 34 ∷ []) (34 ∷ 34 ∷ r) ≡ false → Cut r ks → Cut (34 ∷ 34 ∷ r) ((string [], r) ∷ ks)
empty e l = next (t_string (StringPiece.quoted (Rattle.kdl_text.specs.MultiLine.IsQuoted.on_one_line e (Rattle.kdl_text.specs.Strings.quoted (Rattle.kdl_text.specs.Strings.body Rattle.kdl_text.specs.Strings.AreUnits.none refl))))) l

pub keyword_true : {r : Text} {ks : List (Token × Text)} → starts is_identifier_char r ≡ false → Cut r ks → Cut (35 ∷ 116 ∷ 114 ∷ 117 ∷ 101 ∷ r) ((value (truth true), r) ∷ ks)
keyword_true e l = next (t_value (PlainPiece.keyword {k = Rattle.kdl_text.specs.declared.numbers.Keyword.TheVariants.True} (Rattle.kdl_text.specs.Numbers.keyword refl e) refl)) l

pub letter : (c : ℕ) {r : Text} {ks : List (Token × Text)} → is_bare (c ∷ []) ≡ true → starts is_identifier_char r ≡ false → Cut r ks → Cut (c ∷ r) ((string (c ∷ []), r) ∷ ks)
letter c h e l = next (t_string (StringPiece.bare (Rattle.kdl_text.specs.Bare.bare refl h e))) l

pub digit : (c : ℕ) {r : Text} {ks : List (Token × Text)} → is_sign c ≡ false → base_prefix (c ∷ r) ≡ None → is_digit_of 10 c ≡ true → starts (is_part 10) r ≡ false → starts is_identifier_char r ≡ false
    → fits false (digits_value 10 (c ∷ [])) ≡ true → Cut r ks → Cut (c ∷ r) ((value (integer (pos (digits_value 10 (c ∷ [])))), r) ∷ ks)
digit c a b d e f g l = next (t_value (PlainPiece.number (Rattle.kdl_text.specs.Numbers.is_whole (Rattle.kdl_text.specs.Numbers.whole (Rattle.kdl_text.specs.Numbers.Sign.none a) (Rattle.kdl_text.specs.Numbers.BasePrefix.ten b) (Rattle.kdl_text.specs.Numbers.integer d (Rattle.kdl_text.specs.Numbers.Digits.stop e)) f g refl)) refl)) l

-- short names for data
abbrev pub argument : Value → entry_data'.Entry
argument v = record { key = None; ty = None; value = v }

abbrev pub keyed : ℕ → Value → entry_data'.Entry
keyed c v = record { key = Some (c ∷ []); ty = None; value = v }

abbrev pub name : ℕ → List entry_data'.Entry → Node
name c es = node None (c ∷ []) es no_children

abbrev pub with : ℕ → List entry_data'.Entry → Nodes → Node
with c es xs = node None (c ∷ []) es (children xs)

abbrev pub just : Node → Nodes
just x = first x none
