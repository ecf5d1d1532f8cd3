-- What a step did, from another state or after a look at the token.
use Rattle.std.proofs.Common.{◌≡◌, ℕ, ◌+◌, Option, Result, Ok, Err, OnOk, refl, ap, subst, arith}
use Rattle.kdl_text.specs.Chars.{Text}
use Rattle.kdl_text.specs.Spans.{raise}
use Rattle.kdl_entry.specs.Internal.Counted.{Recounted}
use Rattle.kdl_text.specs.Internal.Here.{Here, looked}
use Rattle.kdl_syntax.specs.declared.lexer.LexFailure.{LexFailure}
use Rattle.kdl_syntax.specs.declared.lexer.LexFailure.TheVariants.{Faulty, Memory}
use Rattle.kdl_syntax.specs.Tokens.{Token}
use Rattle.kdl_syntax.specs.declared.token_span.TokenSpan.{TokenSpan}
use Rattle.kdl_grammar.specs.Internal.Machine.{State}
use Rattle.kdl_grammar.specs.Tree.{Node}
use Rattle.kdl_parser.specs.Internal.Building.{state_view, Did}
use Rattle.kdl_parser.specs.Internal.Counted.{SlicedOn, unsliced}
use Rattle.kdl_parser.specs.Internal.States.{TakesToken, TakesTurn, step_at}
use Rattle.kdl_parser.specs.declared.builder.Builder.{Builder}

-- nothing was sliced
pub none_sliced : {A : Type 0} (m n k a : ℕ) (result : Result A LexFailure) → OnOk result (n ≡ m) → k ≡ m → SlicedOn result k n a a
none_sliced m n k a (Ok x) e f = record { most = omega (arith, e, f) }
none_sliced m n k a (Err Faulty) e f = record { most = omega arith }
none_sliced m n k a (Err Memory) e f = tt

-- one look more
more_sliced : {A : Type 0} (m k s t : ℕ) (result : Result A LexFailure) → SlicedOn result m k (raise s 1) t → SlicedOn result (m + 1) k s t
more_sliced m k s t (Ok x) d = record { most = omega (arith, d.most) }
more_sliced m k s t (Err Faulty) d = record { most = omega (arith, d.most) }
more_sliced m k s t (Err Memory) d = tt

-- a cursor is the same as itself
pub unmoved : (z : Here) → Recounted z z
unmoved z = record { text = refl; rest = refl; at = refl; counts = omega arith }

-- where the cursor is makes no difference
pub same_state : {N : Type 0} (tree : N → Node) (b : Builder N) (z : Here) → z.text ≡ b.cursor.text → state_view tree (record b { cursor = z }) ≡ state_view tree b
same_state tree b z e = ap (λ (t : Text). state_view tree (record b { cursor = record z { text = t } })) e

-- where the token does the same from another state
pub carried : {N : Type 0} (tree : N → Node) (b m : Builder N) (k : Token) (span : TokenSpan) (result : Result (Unit {0}) LexFailure) (new : Builder N) → m.cursor ≡ b.cursor → step_at tree m k span ≡ step_at tree b k span → unsliced m ≡ unsliced b
    → TakesToken tree m k span result new → TakesToken tree b k span result new
carried tree b m k span result new e f g x = record {
  did = subst (λ (o : Option State). Did o result (state_view tree new)) f x.did;
  same = subst (λ (z : Here). Recounted z new.cursor) e x.same;
  sliced = subst (λ (n : ℕ). SlicedOn result n (unsliced new) b.cursor.steps new.cursor.steps) g (subst (λ (z : Here). SlicedOn result (unsliced m) (unsliced new) z.steps new.cursor.steps) e x.sliced);
}

-- a step after a look that is counted
pub looked_takes : {N : Type 0} (tree : N → Node) (b new : Builder N) (z : Here) (k : Token) (span : TokenSpan) (result : Result (Unit {0}) LexFailure) → z ≡ looked b.cursor → TakesToken tree (record b { cursor = z }) k span result new → TakesTurn tree b k span result new
looked_takes tree b new z k span result e x =
    let y : TakesToken tree (record b { cursor = looked b.cursor }) k span result new = subst (λ (s : Here). TakesToken tree (record b { cursor = s }) k span result new) e x in
    record {
      did = y.did;
      same = record { text = y.same.text; rest = y.same.rest; at = y.same.at; counts = omega (arith, y.same.counts) };
      sliced = more_sliced (unsliced b) (unsliced new) b.cursor.steps new.cursor.steps result y.sliced;
    }
