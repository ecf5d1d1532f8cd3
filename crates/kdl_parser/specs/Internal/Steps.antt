-- What the readers of whole texts promise, and the steps of a parse.
use Rattle.std.specs.Prelude.{ℕ, ◌+◌, ◌*◌, ◌≤◌, length, List, Result, Ok, Err, OnOk}
use Rattle.std.specs.Str.{chars}
use Rattle.kdl_text.specs.Chars.{Text}
use Rattle.kdl_text.specs.Failures.{IsSyntax, TellsOnSyntax}
use Rattle.kdl_text.specs.Spans.{bytes, raise}
use Rattle.kdl_text.specs.declared.error.ParseFailure.{ParseFailure}
use Rattle.kdl_grammar.specs.Data as data'
use Rattle.kdl_grammar.specs.Data.{Nodes}
use Rattle.kdl_grammar.specs.Grammar.{IsDocument, IsNodeText}
use Rattle.kdl_syntax.specs.declared.lexer.LexFailure.{LexFailure}
use Rattle.kdl_syntax.specs.declared.lexer.LexFailure.TheVariants.{Faulty, Memory}

-- at least a step for each character of the text, up to the greatest count, and at most 32 for each byte and 32 more
pub record Counted (t : Text) (old new : ℕ) : Type 0 where
  pub least : raise old (length t) ≤ new
  pub most : new ≤ old + 32 * (bytes t + 1)

-- what reading the text costs; if it is refused, no more than that
abbrev pub CountedOn : {A : Type 0} → Result A LexFailure → Text → ℕ → ℕ → Type 0
CountedOn (Ok x) t old new = Counted t old new
CountedOn (Err Faulty) t old new = new ≤ old + 32 * (bytes t + 1)
CountedOn (Err Memory) t old new = Unit {0}

-- what each reader of a document promises beside its result: a refused text is not derived, and its error has the spans of its faults; the bounds on the steps
pub record Parses {A : Type 0} (text : List ℕ) (result : Result A ParseFailure) (old new : ℕ) : Type 0 where
  pub refused : IsSyntax result → (x : Nodes) → IsDocument (chars text) x → ⊥
  pub told : TellsOnSyntax text result
  pub least : OnOk result (raise old (length (chars text)) ≤ new)
  pub most : OnOk result (new ≤ old + 32 * (length text + 1))
  pub told_most : IsSyntax result → new ≤ old + 184 * (length text + 1)
  pub raised : raise old 1 ≤ new

-- the same of a reader of a node, without the bounds
pub record ParsesNode {A : Type 0} (text : List ℕ) (result : Result A ParseFailure) : Type 0 where
  pub refused : IsSyntax result → (x : data'.Node) → IsNodeText (chars text) x → ⊥
  pub told : TellsOnSyntax text result
