-- The test of the words, and what is written of a text.
use Rattle.std.proofs.Common.{◌≡◌, ℕ, ◌<◌, ◌≤◌, Bool, true, List, [], ◌∷◌, map, length, get_or, refl, sym, ap, ◌∙◌, arith, Option, Some}
use Rattle.std.specs.Prelude.{bytes_eq, chars, encode_utf8_all, IsUtf8}
use Rattle.std.proofs.lemmas.Slice.Eq.{bytes_eq-Decides}
use Rattle.kdl_grammar.specs.Data.{Nodes}
use Rattle.kdl_grammar.specs.Grammar.{IsDocument}
use Rattle.kdl_grammar.specs.Laid.{LaidDocument}
use Rattle.kdl_grammar.specs.Print.{print_document}
use Rattle.kdl_grammar.specs.Tree.{Document}
use Rattle.kdl_layout.specs.Config.{defaults}
use Rattle.kdl_layout.specs.WithComments.{IsFormattedDocument}
use Rattle.tool.specs.Commands.{Asked, fmt, IsWritten, words_of}
use Rattle.tool.specs.Runs.{Output}

-- a list of one element
pub alone : {X : Type 0} (f : X → List ℕ) (xs : List X) (x : X) → 1 ≤ length xs → length xs < 2 → x ≡ get_or xs 0 x → map f xs ≡ f x ∷ []
alone f [] x some few is = absurd (omega arith)
alone f (y ∷ []) x some few is = ap (λ z. f z ∷ []) (sym is)
alone f (y ∷ z ∷ zs) x some few is = absurd (omega arith)

-- and one of two
pub two : {X : Type 0} (f : X → List ℕ) (xs : List X) (x y : X) → 2 ≤ length xs → length xs < 3 → x ≡ get_or xs 0 x → y ≡ get_or xs 1 y → map f xs ≡ f x ∷ f y ∷ []
two f [] x y some few is also = absurd (omega arith)
two f (a ∷ []) x y some few is also = absurd (omega arith)
two f (a ∷ b ∷ []) x y some few is also = ap (λ z. f z ∷ f b ∷ []) (sym is) ∙ ap (λ z. f x ∷ f z ∷ []) (sym also)
two f (a ∷ b ∷ c ∷ cs) x y some few is also = absurd (omega arith)

-- a word that was compared
pub same_word : (word text : List ℕ) (b : Bool) → b ≡ bytes_eq word text → b ≡ true → word ≡ text
same_word word text b is t = (bytes_eq-Decides word text).0 (sym is ∙ t)

-- what is written of a text with these data
pub written_is : (a : Asked) (text : List ℕ) (x : Nodes) (out : Option (List ℕ)) → IsUtf8 text → IsDocument (chars text) x → ((y : Nodes) → IsDocument (chars text) y → y ≡ x)
    → IsWritten a text x out → Output (words_of a) text out
written_is a text x out u d o e = record { asked = a; by = refl; content = x; says = record { utf8 = u; derived = d; alone = o }; written = e }

-- what fmt writes of a text with these data
pub laid_out_is : (text : List ℕ) (x : Nodes) (out : Option (List ℕ)) (d e : Document) → LaidDocument d (chars text) → IsFormattedDocument defaults 0 d e → IsDocument (print_document e 0) x
    → out ≡ Some (encode_utf8_all (print_document e 0)) → IsWritten fmt text x out
laid_out_is text x out d e l f s p = (_, record { before = d; after = e; laid = l; formatted = f; prints = refl; says = s }, p)
