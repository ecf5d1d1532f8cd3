-- What a token that was handed out, a token that is refused, a fault and the end do to the machine's runs.
use Rattle.std.proofs.Common.{◌≡◌, ◌↔◌, [], Option, Some, None, refl, subst, ◌∙◌}
use Rattle.kdl_text.specs.Chars.{Text, Star, Plus, plus}
use Rattle.kdl_text.specs.Chars.Star.{none, more}
use Rattle.kdl_text.specs.Trivia.{NodeSpace}
use Rattle.kdl_syntax.specs.Internal.Handed.{Cuts, one, spaces}
use Rattle.kdl_syntax.specs.Tokens.{Token, space, BeginsToken, t_space}
use Rattle.kdl_syntax.proofs.Lexing.TokenUnique.{token_det, no_token}
use Rattle.kdl_grammar.specs.Internal.Machine.{fresh, gap, in_node, State, at, step, finish, Runs, stops, reads}
use Rattle.kdl_grammar.specs.Tree.{Document}

-- a run at a text that begins with a token goes on after it
goes_on : {whole : Text} {d : Document} {st : State} {s r : Text} {k : Token} → BeginsToken s k r → Runs whole d st s → (st' : State) × (step whole st k s r ≡ Some st') × Runs whole d st' r
goes_on t (stops e) = absurd (no_token t)
goes_on {whole = whole} {d = d} {st = st} {s = s} {r = r} {k = k} t (reads {st' = st'} {r = r'} {k = j} u e a) =
    let same = token_det u t in
    let e' : step whole st k s r ≡ Some st' = subst (λ (x : Text). step whole st k s x ≡ Some st') same.0 (subst (λ (i : Token). step whole st i s r' ≡ Some st') same.1 e) in
    (st', e', subst (λ (x : Text). Runs whole d st' x) same.0 a)

abbrev and_then : Option State → (State → Option State) → Option State
and_then None f = None
and_then (Some st) f = f st

module _ (whole : Text) (d : Document) where
  read_one : (st st' : State) (s r : Text) (k : Token) → BeginsToken s k r → step whole st k s r ≡ Some st' → Runs whole d st' r ↔ Runs whole d st s
  read_one st st' s r k t e = (λ a. reads t e a, λ a. let g = goes_on t a in let u : g.0 ≡ st' = (let v = g.1 in cc) in subst (λ (z : State). Runs whole d z r) u g.2)

  -- a space more changes nothing
  again : (st : State) (s r t q : Text) → and_then (step whole st space s r) (λ z. step whole z space t q) ≡ step whole st space s r
  again (at (in_node u (fresh o)) l fs from) s r t q = refl
  again _ s r t q = refl

  -- and its place does not matter
  anywhere : (st : State) (s r t q : Text) → step whole st space s r ≡ step whole st space t q
  anywhere (at gap l fs from) s r t q = refl
  anywhere _ s r t q = refl

  read_spaces : (st : State) (s r : Text) → ((t q : Text) → step whole st space t q ≡ Some st) → Star NodeSpace s r → Runs whole d st r ↔ Runs whole d st s
  read_spaces st s r e none = (λ a. a, λ a. a)
  read_spaces st s r e (more {t = t} n m) =
      let x = read_one st st s t space (t_space n) (e s t) in
      let y = read_spaces st t r e m in
      (λ a. x.0 (y.0 a), λ a. y.1 (x.1 a))

  read_run : (st st' : State) (s r : Text) → Plus NodeSpace s r → step whole st space s r ≡ Some st' → Runs whole d st' r ↔ Runs whole d st s
  read_run st st' s r (plus {t = t} n m) e =
      let x = read_one st st' s t space (t_space n) (anywhere st s t s r ∙ e) in
      let f = λ (q w : Text). subst (λ (z : Option State). and_then z (λ y. step whole y space q w) ≡ z) e (again st s r q w) in
      let y = read_spaces st' t r f m in
      (λ a. x.0 (y.0 a), λ a. y.1 (x.1 a))

  -- what a token does
  pub read_cut : (st st' : State) (s r : Text) (k : Token) → Cuts s k r → step whole st k s r ≡ Some st' → Runs whole d st' r ↔ Runs whole d st s
  read_cut st st' s r k (one t) e = read_one st st' s r k t e
  read_cut st st' s r k (spaces ss) e = read_run st st' s r ss e

  -- a token that the machine refuses
  pub refuses : (st : State) (s r : Text) (k : Token) → Cuts s k r → step whole st k s r ≡ None → Runs whole d st s → ⊥
  refuses st s r k (one t) e a = let g = goes_on t a in let u = g.1 in cc
  refuses st s r k (spaces (plus {t = t} n m)) e a = let g = goes_on (t_space n) a in let u = g.1 in let v = anywhere st s t s r in cc

  -- no token begins before the end
  pub faults : (st : State) (s : Text) → (s ≡ [] → ⊥) → ((r : Text) (k : Token) → BeginsToken s k r → ⊥) → Runs whole d st s → ⊥
  faults st s n f (stops e) = n refl
  faults st s n f (reads t e a) = f _ _ t

  pub at_stop : (st : State) → Runs whole d st [] ↔ (finish whole st ≡ Some d)
  at_stop st = (λ a. go a refl, λ e. stops e)
    where
      go : {s : Text} → Runs whole d st s → s ≡ [] → finish whole st ≡ Some d
      go (stops e) q = e
      go (reads {r = r} {k = k} t e a) q = absurd (no_token (subst (λ (z : Text). BeginsToken z k r) q t))
