-- After a token that the machine without data refuses no document goes on.
use Rattle.std.proofs.Common.{◌≡◌, ◌≢◌, true, false, List, [], ◌∷◌, ◌++◌, take, Option, Some, None, refl, sym, ap, subst, ◌∙◌, arith}
use Rattle.std.proofs.lemmas.List.{append_cancel_right}
use Rattle.kdl_text.specs.Chars.{Text}
use Rattle.kdl_text.specs.Internal.Here.{first}
use Rattle.kdl_syntax.specs.Tokens.{Token, string, value, BeginsToken, Lexes, done, next}
use Rattle.kdl_syntax.proofs.Lexing.TokenFronts.{RefusedWith, refused_with}
use Rattle.kdl_syntax.proofs.Lexing.TokenUnique.{token_det, no_token, token_shorter}
use Rattle.kdl_syntax.proofs.Moving.Puts.{Put, stands, joined, front_first}
use Rattle.kdl_entry.proofs.Moving.TokenMoves.{near, full_of}
use Rattle.kdl_value.specs.Data.{Value}
use Rattle.kdl_grammar.specs.Data.{Nodes}
use Rattle.kdl_grammar.specs.Grammar.{AreNodes}
use Rattle.kdl_syntax.specs.Control.{Control, at, step, held, accepts}
use Rattle.kdl_syntax.specs.declared.control.{Spot.TheVariants.Fresh, Owner.TheVariants.Name as OfName}
use Rattle.kdl_syntax.specs.declared.control.Phase.TheVariants.{Gap, TypeDone, InNode}
use Rattle.kdl_grammar.specs.Going.{GoesBy, Goes, here, goes, RefusesFront}
use Rattle.kdl_grammar.proofs.Reading.Erased.{accepted_nodes}
use Rattle.kdl_grammar.proofs.Reading.Viable.{goes_length, Reads}

pub record Carried {S : Type 0} (turn : S → Token → Option S) (c : S) (s : Text) (d : S) (r u : Text) : Type 0 where
  pub at : Put s r
  pub there : GoesBy turn c (at.put u) d u

-- what the machine goes over it goes over before each such rest
module _ {S : Type 0} {turn : S → Token → Option S} {d : S} {r : Text} (u : Text) (same : first u ≡ first r) where
  nearer : {c c' : S} {s t : Text} {k : Token} → BeginsToken s k t → turn c k ≡ Some c' → GoesBy turn c' t d r → Carried turn c' t d r u → Carried turn c s d r u
  nearer x e here y = let m = near x u same in record { at = m.at; there = goes m.there e here }
  nearer x e (goes x' e' g) y =
      let z = full_of y.at (omega (arith, token_shorter x', goes_length g)) u in
      let m = near x (y.at.put u) z in
      record { at = joined m.at y.at; there = goes m.there e y.there }

  near_goes : {c : S} {s : Text} → GoesBy turn c s d r → Carried turn c s d r u
  near_goes here = record { at = stands; there = here }
  near_goes (goes x e g) = nearer x e g (near_goes g)

-- the same of a text by its parts
pub near_after : {S : Type 0} {turn : S → Token → Option S} {c d : S} (p r u : Text) → first u ≡ first r → GoesBy turn c (p ++ r) d r → GoesBy turn c (p ++ u) d u
near_after {turn = turn} {c = c} {d = d} p r u same g =
    let y = near_goes u same g in
    let e : y.at.piece ≡ p = append_cancel_right y.at.piece p r (sym (y.at.here ∙ y.at.text r)) in
    subst (λ (z : Text). GoesBy turn c z d u) (y.at.text u ∙ ap (λ (z : Text). z ++ u) e) y.there

-- what is accepted from one state is accepted from the other, after what is between them
pub follow : {c d : Control} {s r : Text} → Goes c s d r → {ks : List Token} → Lexes s ks → accepts c ks ≡ true → Reads d r
follow here {ks = ks} l a = record { tokens = ks; lexed = l; accepted = a }
follow (goes b e g) done a = absurd (no_token b)
follow {c = c} (goes b e g) (next {ks = ks} b' l) a =
    let x = token_det b b' in
    follow g (subst (λ (z : Text). Lexes z ks) (sym x.0) l) (ap (held (λ c'. accepts c' ks)) (sym e) ∙ ap (λ (z : Token). held (λ c'. accepts c' ks) (step c z)) x.1 ∙ a)

no_string : (c : Control) (v : Text) (w : Text) → step c (string v) ≡ None → step c (string w) ≡ None
no_string (at (TypeDone OfName) fs) v w e = cc
no_string (at (InNode (Fresh b)) fs) v w e = cc
no_string (at p fs) v w e = cc

no_value : (c : Control) (v : Text) (w : Value) → step c (string v) ≡ None → step c (value w) ≡ None
no_value (at (TypeDone OfName) fs) v w e = cc
no_value (at (InNode (Fresh b)) fs) v w e = cc
no_value (at p fs) v w e = cc

no_other : (c : Control) (v : Value) (w : Value) → step c (value v) ≡ None → step c (value w) ≡ None
no_other (at (TypeDone OfName) fs) v w e = cc
no_other (at (InNode (Fresh b)) fs) v w e = cc
no_other (at p fs) v w e = cc

pub refused_too : (c : Control) (k j : Token) → RefusedWith k j → step c k ≡ None → step c j ≡ None
refused_too c (string v) (string w) a e = no_string c v w e
refused_too c (string v) (value w) a e = no_value c v w e
refused_too c (value v) (value w) a e = no_other c v w e
refused_too c (string v) _ a e = absurd a
refused_too c (value v) _ a e = absurd a
refused_too c k j a e = ap (step c) (sym a) ∙ e

-- nothing is accepted that begins with a refused token
pub refused_here : (d : Control) {u v : Text} {k : Token} {ks : List Token} → BeginsToken u k v → step d k ≡ None → Lexes u ks → accepts d ks ≡ true → ⊥
refused_here d b n done a = no_token b
refused_here d b n (next {k = j} {ks = ks} b' l) a =
    let y = token_det b b' in
    let z : held (λ c. accepts c ks) (step d j) ≡ false = ap (held (λ c. accepts c ks)) (ap (step d) (sym y.1) ∙ n) in
    absurd cc

-- nor what begins with a front of refused tokens alone
refused_front : (d : Control) (f u : Text) {ks : List Token} → (f ++ u ≢ []) → RefusesFront d f → Lexes (f ++ u) ks → accepts d ks ≡ true → ⊥
refused_front d f u some n l a = go (f ++ u) refl l a
  where
    go : (s : Text) → s ≡ f ++ u → {js : List Token} → Lexes s js → accepts d js ≡ true → ⊥
    go s e done a' = some (sym e)
    go s e (next {r = r} {k = k} {ks = js} b l') a' =
        let h = n u r k (subst (λ (z : Text). BeginsToken z k r) e b) in
        let z : held (λ c. accepts c js) (step d k) ≡ false = ap (held (λ c. accepts c js)) h in
        absurd cc

-- the text that the machine goes over to the end is accepted from there on, where it is derived
pub rest_of : {t r : Text} {c : Control} → Goes (at Gap []) t c r → {xs : Nodes} → AreNodes true t [] xs → Reads c r
rest_of g n = let (ks, l, a) = accepted_nodes n in follow g l a

-- no nodes begin with what the machine went over and such a front
pub dead_nodes : (p f r : Text) {d : Control} → f ≢ [] → Goes (at Gap []) (p ++ (f ++ r)) d (f ++ r) → RefusesFront d f → (u : Text) {xs : Nodes} → AreNodes true (p ++ (f ++ u)) [] xs → ⊥
dead_nodes p f r {d = d} some g n u {xs = xs} m =
    let q = rest_of (near_after p (f ++ r) (f ++ u) (front_first f u r some) g) m in
    refused_front d f u (λ e. some (front_empty f u e)) n q.lexed q.accepted
  where
    front_empty : (f u : Text) → f ++ u ≡ [] → f ≡ []
    front_empty [] u e = refl
    front_empty (c ∷ f) u e = cc

-- the first two characters of a refused token are such a front
pub refuses_two : {r s : Text} (d : Control) {k : Token} → BeginsToken r k s → step d k ≡ None → RefusesFront d (take 2 r)
refuses_two {r = r} d {k = k} b n u t j b' = refused_too d k j (refused_with r u b b') n
