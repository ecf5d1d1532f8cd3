-- What each reader of a whole text promises beside its result.
use Rattle.std.proofs.Common.{ℕ, List, ◌+◌, ◌*◌, ◌≤◌, length, Ok, Err}
use Rattle.std.specs.Str.{chars, IsUtf8}
use Rattle.kdl_text.specs.Failures.{IsSyntax, TellsOf}
use Rattle.kdl_text.specs.Spans.{raise}
use Rattle.kdl_text.specs.declared.error.ParseFailure.{ParseFailure}
use Rattle.kdl_text.specs.declared.error.ParseFailure.TheVariants.{Syntax, Memory}
use Rattle.kdl_grammar.specs.Data.{Nodes}
use Rattle.kdl_grammar.specs.Grammar.{IsDocument}
use Rattle.kdl_parser.specs.Internal.Steps.{Counted, Parses}
use Rattle.kdl_parser.proofs.Answering.Outcomes.{most_counted}

-- an accepted text
pub parsed : {A : Type 0} (text : List ℕ) (x : A) (old new : ℕ) → IsUtf8 text → Counted (chars text) old new → raise old 1 ≤ new → Parses text (Ok x) old new
parsed text x old new u c r = record {
  refused = λ s. absurd s;
  told = tt;
  least = c.least;
  most = most_counted text old new u c;
  told_most = λ s. absurd s;
  raised = r;
}

-- a refused text, and memory that ran out
pub not_parsed : {A : Type 0} (text : List ℕ) (f : ParseFailure) (old new : ℕ) → ((x : Nodes) → IsDocument (chars text) x → ⊥) → TellsOf text f → (IsSyntax {A = A} (Err f) → new ≤ old + 184 * (length text + 1)) → raise old 1 ≤ new
    → Parses {A = A} text (Err f) old new
not_parsed text (Syntax e) old new n t m r = record { refused = λ s. n; told = t; least = tt; most = tt; told_most = m; raised = r }
not_parsed text Memory old new n t m r = record { refused = λ s. absurd s; told = tt; least = tt; most = tt; told_most = λ s. absurd s; raised = r }

pub out_of_memory : {A : Type 0} (text : List ℕ) (old new : ℕ) → raise old 1 ≤ new → Parses {A = A} text (Err Memory) old new
out_of_memory text old new r = record { refused = λ s. absurd s; told = tt; least = tt; most = tt; told_most = λ s. absurd s; raised = r }
