-- What the result on a whole text says of the grammar.
use Rattle.std.proofs.Common.{◌≡◌, ℕ, List, ◌+◌, ◌*◌, ◌≤◌, length, arith, true, false, ◌∷◌, Ok, Err, refl, sym, ap, subst}
use Rattle.std.specs.Str.{chars, IsUtf8}
use Rattle.kdl_text.specs.Chars.{Text, begins}
use Rattle.kdl_text.specs.Spans.{bytes}
use Rattle.kdl_syntax.specs.declared.lexer.LexFailure.{LexFailure}
use Rattle.kdl_syntax.specs.declared.lexer.LexFailure.TheVariants.{Faulty, Memory}
use Rattle.kdl_text.specs.Failures.{IsSyntax}
use Rattle.kdl_text.specs.declared.error.ParseFailure.{ParseFailure}
use Rattle.kdl_text.specs.declared.error.ParseFailure.TheVariants.{Syntax, Memory as NoMemory}
use Rattle.kdl_diagnostics.specs.Internal.Noted.{OnRefused}
use Rattle.kdl_text.proofs.Looking.Texts.{bytes-chars}
use Rattle.kdl_grammar.specs.Data.{Nodes}
use Rattle.kdl_grammar.specs.Former.{IsFormerDocument}
use Rattle.kdl_grammar.specs.Grammar.{IsDocument}
use Rattle.kdl_grammar.specs.Laid.{LaidDocument, with_bom}
use Rattle.kdl_grammar.specs.Internal.Machine.{initial, Runs, AnswersDocument}
use Rattle.kdl_grammar.specs.Print.{print_document}
use Rattle.kdl_grammar.specs.Tree.{Node, Document, document_data}
use Rattle.kdl_parser.specs.Internal.Answered.{AnswersParts}
use Rattle.kdl_parser.specs.Internal.Parts.{document_by}
use Rattle.kdl_parser.specs.Internal.Steps.{Counted}
use Rattle.kdl_parser.specs.Internal.Whole.{AnswersDocumentText}
use Rattle.kdl_parser.specs.declared.node_parts.DocumentParts.{DocumentParts}
use Rattle.kdl_grammar.proofs.Reading.Erased.{sound, answered, no_bom_here, one_document}
use Rattle.kdl_grammar.proofs.Laying.LaidPrints.{printed}
use Rattle.kdl_grammar.proofs.Moving.FormerIsPresent.{wider}

-- a text that does not begin with U+FEFF
not_begins : (t : Text) → begins 0xFEFF t ≡ false → (u : Text) → t ≡ 0xFEFF ∷ u → ⊥
not_begins t n u e = let f = ap (begins 0xFEFF) e in cc

refused_plain : {t : Text} {d : Document} → AnswersDocument t d → ((u : Text) → t ≡ 0xFEFF ∷ u → ⊥) → ((d : Document) → Runs t d (initial t) t → ⊥) → ⊥
refused_plain (AnswersDocument.no_bom {d = d} a) n f = f d a
refused_plain (AnswersDocument.after_bom {t = s} a) n f = n s refl

pub plain_answer : {N : Type 0} (tree : N → Node) (t : Text) (p : DocumentParts N) → AnswersParts tree t t (Ok p) → AnswersDocumentText tree t (Ok p)
plain_answer tree t p a = AnswersDocument.no_bom a

pub plain_failure : {N : Type 0} (tree : N → Node) (t : Text) (e : LexFailure) → begins 0xFEFF t ≡ false → AnswersParts tree t t (Err e) → AnswersDocumentText tree t (Err e)
plain_failure tree t Faulty n a = λ d x. refused_plain x (not_begins t n) a
plain_failure tree t Memory n a = tt

-- a text that begins with U+FEFF
refused_after_bom : {t : Text} {d : Document} → AnswersDocument t d → (u : Text) → t ≡ 0xFEFF ∷ u → ((d : Document) → Runs t d (initial u) u → ⊥) → ⊥
refused_after_bom (AnswersDocument.no_bom {t = t} {d = d} a) u e f = no_bom_here (subst (λ (z : Text). Runs t d (initial z) z) e a)
refused_after_bom (AnswersDocument.after_bom {t = s} {d = d} a) u e f = let g : s ≡ u = cc in f d (subst (λ (z : Text). Runs (0xFEFF ∷ s) d (initial z) z) g a)

pub bom_answer : {N : Type 0} (tree : N → Node) (t u : Text) (p : DocumentParts N) → t ≡ 0xFEFF ∷ u → AnswersParts tree t u (Ok p) → AnswersDocument t (with_bom (document_by tree p))
bom_answer tree t u p e a =
    let b : Runs (0xFEFF ∷ u) (document_by tree p) (initial u) u = subst (λ (z : Text). Runs z (document_by tree p) (initial u) u) e a in
    subst (λ (z : Text). AnswersDocument z (with_bom (document_by tree p))) (sym e) (AnswersDocument.after_bom b)

pub bom_failure : {N : Type 0} (tree : N → Node) (t u : Text) (e : LexFailure) → t ≡ 0xFEFF ∷ u → AnswersParts tree t u (Err e) → AnswersDocumentText tree t (Err e)
bom_failure tree t u Faulty e a = λ d x. refused_after_bom x u e a
bom_failure tree t u Memory e a = tt

-- what is returned is what the grammar derives, laid in the text, and prints it
pub found : (t : Text) (d : Document) → AnswersDocument t d → IsDocument t (document_data d)
found t d a = (sound t d a).1

pub only : (t : Text) (d : Document) → AnswersDocument t d → (x : Nodes) → IsDocument t x → x ≡ document_data d
only t d a x i = one_document t x (document_data d) i (found t d a)

pub laid : (t : Text) (d : Document) → AnswersDocument t d → LaidDocument d t
laid t d a = (sound t d a).0

pub prints : (t : Text) (d : Document) → AnswersDocument t d → print_document d 0 ≡ t
prints t d a = printed true d t (laid t d a)

pub refused : (t : Text) → ((d : Document) → AnswersDocument t d → ⊥) → (x : Nodes) → IsDocument t x → ⊥
refused t n x i = let a = answered t x i in n a.0 a.1

-- the former language
pub former : (t : Text) (d : Document) → AnswersDocument t d → (x : Nodes) → IsFormerDocument t x → document_data d ≡ x
former t d a x i = sym (only t d a x (wider false i))

-- the bound on the steps, in bytes of the text
pub most_counted : (text : List ℕ) (old new : ℕ) → IsUtf8 text → Counted (chars text) old new → new ≤ old + 32 * (length text + 1)
most_counted text old new u c = omega (arith, c.most, bytes-chars text u)

-- where it is refused, and the faults are reported from mid on
pub told_counted : (text : List ℕ) (old mid new : ℕ) (f : ParseFailure) → IsUtf8 text → mid ≤ old + 32 * (bytes (chars text) + 1) → OnRefused f (new ≤ mid + 152 * (length text + 1)) → IsSyntax {A = Text} (Err f) → new ≤ old + 184 * (length text + 1)
told_counted text old mid new (Syntax e) u c d s = omega (arith, c, d, bytes-chars text u)
told_counted text old mid new NoMemory u c d s = absurd s
