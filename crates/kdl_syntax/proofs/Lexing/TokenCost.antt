-- What the readers of tokens cost.
use Rattle.std.proofs.Common.{◌≡◌, ℕ, ◌+◌, ◌-◌, ◌*◌, ◌≤◌, ◌<◌, Bool, true, false, [], ◌∷◌, length, sym, subst, ap, ◌∙◌, arith, length-append}
use Rattle.std.proofs.Math.Nat.{add-mul, mul-le-mul_left}
use Rattle.std.specs.Prelude.{Some, Result, Ok, Err}
use Rattle.std.specs.Result.{IsErrAnd}
use Rattle.kdl_text.specs.Chars.{Text}
use Rattle.kdl_text.specs.Bare.{BareString}
use Rattle.kdl_text.specs.Internal.Here.{Here, Stayed, looked, first, tail}
use Rattle.kdl_text.specs.Spans.{bytes}
use Rattle.kdl_text.specs.MultiLine.{IsQuoted}
use Rattle.kdl_text.specs.Raw.{IsRaw}
use Rattle.kdl_text.specs.Internal.Reading.{Moves, Costs}
use Rattle.kdl_text.specs.Internal.TriviaReading.{PieceCosts}
use Rattle.kdl_text.proofs.Looking.MovesJoin.{bytes-append, fewer_bytes}
use Rattle.kdl_text.proofs.Quoted.BareReads.{bare_shorter}
use Rattle.kdl_text.proofs.Quoted.StringUnique.{is_quoted_shorter, is_raw_shorter}
use Rattle.kdl_text.proofs.Looking.Runs.{length-bytes}
use Rattle.kdl_value.specs.Data.{Value}
use Rattle.kdl_syntax.specs.Pieces.{PlainPiece}
use Rattle.kdl_syntax.specs.Internal.Handed.{KindCosts, LexCosts, NextCosts}
use Rattle.kdl_syntax.specs.declared.lexer.LexFailure.{LexFailure}
use Rattle.kdl_syntax.specs.declared.lexer.LexFailure.TheVariants.{Faulty, Memory}
use Rattle.kdl_syntax.specs.declared.lexer.NextToken.{NextToken}
use Rattle.kdl_syntax.specs.declared.lexer.TokenKind.{TokenKind}
use Rattle.kdl_syntax.proofs.Lexing.StringUnique.{plain_shorter}

pub first_is : (s : Text) (c : ℕ) → first s ≡ Some c → s ≡ c ∷ tail s
first_is [] c h = cc
first_is (d ∷ s) c h = cc

pub clash : (a : Bool) → a ≡ true → a ≡ false → ⊥
clash a h k = cc

-- what a piece costs: it is not empty, so that a constant is a cost for its bytes
pub fewer : {a b : Here} → Moves a b → length b.rest < length a.rest → bytes b.rest < bytes a.rest
fewer {b = b} m h = let p = m.piece.0 in omega (arith, h, ap length m.piece.1, length-append p b.rest, length-bytes p, ap bytes m.piece.1, bytes-append p b.rest)

pub bare_costs : (a b : Here) (v : Text) → BareString a.rest b.rest v → Moves a b → Costs 2 4 a b → PieceCosts 20 a b
bare_costs a b v p m c = let less = fewer m (bare_shorter p) in record { fewer = less; costs = record { most = omega (arith, c.most, less); least = c.least } }

pub quoted_costs : (a b : Here) (v : Text) → IsQuoted a.rest b.rest v → Moves a b → Costs 4 7 a b → PieceCosts 22 a b
quoted_costs a b v p m c = let less = fewer m (is_quoted_shorter p) in record { fewer = less; costs = record { most = omega (arith, c.most, less); least = c.least } }

pub raw_costs : (a b : Here) (v : Text) → IsRaw a.rest b.rest v → Moves a b → Costs 4 9 a b → PieceCosts 21 a b
raw_costs a b v p m c = let less = fewer m (is_raw_shorter p) in record { fewer = less; costs = record { most = omega (arith, c.most, less); least = c.least } }

pub plain_costs : (a b : Here) (v : Value) → PlainPiece a.rest b.rest v → Moves a b → Costs 20 0 a b → PieceCosts 20 a b
plain_costs a b v p m c = record { fewer = fewer m (plain_shorter p); costs = c }

pub more_costs : (a b : Here) → PieceCosts 20 a b → PieceCosts 21 a b
more_costs a b p = record { fewer = p.fewer; costs = record { most = omega (arith, p.costs.most, p.fewer); least = p.costs.least } }

-- where none begins, a bound on the steps for each byte that was read and on those beside them
pub faulty_costs : (k c m : ℕ) (a b : Here) → Costs k c a b → Moves a b → k ≤ m → c ≤ m → Costs m m a b
faulty_costs k c m a b f v i j =
    let more = mul-le-mul_left (m - k) (fewer_bytes v) in
    let is : k + (m - k) ≡ m = omega (arith, i) in
    let x : m * bytes a.rest ≡ k * bytes a.rest + (m - k) * bytes a.rest = sym (ap (λ (n : ℕ). n * bytes a.rest) is) ∙ add-mul k (m - k) (bytes a.rest) in
    let y : m * bytes b.rest ≡ k * bytes b.rest + (m - k) * bytes b.rest = sym (ap (λ (n : ℕ). n * bytes b.rest) is) ∙ add-mul k (m - k) (bytes b.rest) in
    record { most = omega (arith, f.most, more, x, y, j); least = f.least }

pub failed_costs : (k c m : ℕ) (f : LexFailure) (a b : Here) → Costs k c a b → Moves a b → k ≤ m → c ≤ m → KindCosts {A = TokenKind} m (Err f) a b
failed_costs k c m Faulty a b f v i j = faulty_costs k c m a b f v i j
failed_costs k c m Memory a b f v i j = tt

-- with looks before it
pub two_looks : {A : Type 0} (k : ℕ) (r : Result A LexFailure) (a b e : Here) → k ≤ 2 → Stayed k a b → Moves b e → KindCosts 20 r b e → KindCosts 22 r a e
two_looks k (Ok x) a b e few s v p = let q = ap bytes s.rest in record { fewer = omega (arith, q, p.fewer); costs = record { most = omega (arith, s.steps, q, p.costs.most, p.fewer, few); least = omega (arith, s.steps, ap length s.rest, p.costs.least) } }
two_looks k (Err Faulty) a b e few s v p = let q = ap bytes s.rest in record { most = omega (arith, s.steps, q, p.most, few, fewer_bytes v); least = omega (arith, s.steps, ap length s.rest, p.least) }
two_looks k (Err Memory) a b e few s v p = tt

pub one_look : {A : Type 0} (r : Result A LexFailure) (a b e : Here) → Stayed 1 a b → Moves b e → KindCosts 21 r b e → KindCosts 22 r a e
one_look (Ok x) a b e s v p = let q = ap bytes s.rest in record { fewer = omega (arith, q, p.fewer); costs = record { most = omega (arith, s.steps, q, p.costs.most, p.fewer); least = omega (arith, s.steps, ap length s.rest, p.costs.least) } }
one_look (Err Faulty) a b e s v p = let q = ap bytes s.rest in record { most = omega (arith, s.steps, q, p.most, fewer_bytes v); least = omega (arith, s.steps, ap length s.rest, p.least) }
one_look (Err Memory) a b e s v p = tt

-- after a look
pub no_token_costs : (a b e : Here) → b ≡ looked a → Moves b e → Costs 22 22 b e → Costs 24 24 a e
no_token_costs a b e x v p =
    let y = ap (λ (h : Here). h.steps) x in let z = ap (λ (h : Here). bytes h.rest) x in let w = ap (λ (h : Here). length h.rest) x in
    record { most = omega (arith, y, z, p.most, fewer_bytes v); least = omega (arith, y, w, p.least) }

pub token_costs : (a b e : Here) → b ≡ looked a → PieceCosts 22 b e → Costs 24 0 a e
token_costs a b e x p =
    let y = ap (λ (h : Here). h.steps) x in let z = ap (λ (h : Here). bytes h.rest) x in let w = ap (λ (h : Here). length h.rest) x in
    record { most = omega (arith, y, z, p.costs.most, p.fewer); least = omega (arith, y, w, p.costs.least) }

of_failure : (a b e : Here) (f : LexFailure) → b ≡ looked a → Moves b e → KindCosts {A = TokenKind} 22 (Err f) b e → LexCosts (Err f) a e
of_failure a b e Faulty x v k = no_token_costs a b e x v k
of_failure a b e Memory x v k = tt

pub failure_costs : (r : Result NextToken LexFailure) (f : LexFailure) (a b e : Here) → IsErrAnd r (λ g. g ≡ f) → b ≡ looked a → Moves b e → KindCosts {A = TokenKind} 22 (Err f) b e → NextCosts r a e
failure_costs (Ok n) f a b e h x v k = absurd h
failure_costs (Err g) f a b e h x v k = subst (λ q. LexCosts (Err q) a e) (sym h) (of_failure a b e f x v k)
