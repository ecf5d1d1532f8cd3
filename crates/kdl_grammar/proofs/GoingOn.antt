-- Which texts begin a document.
use Rattle.std.proofs.Common.{◌≡◌, ◌≢◌, List, true, false, [], ◌∷◌, ◌++◌, length, take, Some, refl, sym, ap, subst, ◌∙◌, append_assoc, arith}
use Rattle.std.proofs.lemmas.List.{append_cancel_right, append-nil}
use Rattle.std.specs.Prelude.{IsTrue}
use Rattle.kdl_text.specs.Chars.{Text, begins}
use Rattle.kdl_text.specs.Internal.Here.{first}
use Rattle.kdl_syntax.specs.Tokens.{Token, BeginsToken, t_bom, Lexes, done, next, NoToken}
use Rattle.kdl_syntax.proofs.Lexing.TokenUnique.{no_token}
use Rattle.kdl_syntax.proofs.Moving.Puts.{begins_first, front_first, more_first, two_parts, two_some}
use Rattle.kdl_grammar.specs.Data.{Nodes}
use Rattle.kdl_grammar.specs.GoingOn.{Derived, Viable, Alive, AliveInToken, DeadAtToken, DeadAtFront, RefusedAtPiece, DerivedAtEnd}
use Rattle.kdl_grammar.specs.Grammar.{AreNodes, IsDocument, IsDocumentIn}
use Rattle.kdl_syntax.specs.Control.{Control, at, accepts, finish, step}
use Rattle.kdl_syntax.specs.declared.control.Phase.TheVariants.{Gap}
use Rattle.kdl_grammar.specs.Going.{Goes, here, goes, Reaches, no_bom, after_bom}
use Rattle.kdl_grammar.proofs.Reading.Erased.{accepted_nodes}
use Rattle.kdl_grammar.proofs.Reading.Refusing.{near_after, rest_of, dead_nodes, refused_here, refuses_two}
use Rattle.kdl_grammar.proofs.Reading.Sound.{derives}
use Rattle.kdl_grammar.proofs.Reading.Viable.{reads, viable, goes_length}

-- what the machine went over in a text that is p before r: p, or p without the U+FEFF that begins it
data Went (p r : Text) (c : Control) : Type 0 where
  plain : begins 0xFEFF (p ++ r) ≡ false → Goes (at Gap []) (p ++ r) c r → Went p r c
  marked : {q : Text} → p ≡ 0xFEFF ∷ q → Goes (at Gap []) (q ++ r) c r → Went p r c

went : (p r : Text) {t : Text} {c : Control} → Reaches t c r → t ≡ p ++ r → Went p r c
went p r {c = c} (no_bom h g) e = plain (ap (begins 0xFEFF) (sym e) ∙ h) (subst (λ (z : Text). Goes (at Gap []) z c r) e g)
went [] r (after_bom g) e = absurd (omega (arith, goes_length g, ap length e))
went (d ∷ p) r {c = c} (after_bom {t = t} g) e =
    let a : d ≡ 0xFEFF = cc in
    let b : t ≡ p ++ r = cc in
    marked (ap (λ z. z ∷ p) a) (subst (λ (z : Text). Goes (at Gap []) z c r) b g)

pub alive : Alive
alive p r c g = go (went p r g refl)
  where
    go : Went p r c → Viable p
    go (plain h g) =
        let v = viable g in
        let same : v.before ≡ p = append_cancel_right v.before p r (sym v.text) in
        (v.following, (v.nodes, IsDocumentIn.no_bom (subst (λ (z : Text). AreNodes true (z ++ v.following) [] v.nodes) same v.derived)))
    go (marked {q = q} e g) =
        let v = viable g in
        let same : v.before ≡ q = append_cancel_right v.before q r (sym v.text) in
        let d : IsDocument (0xFEFF ∷ (q ++ v.following)) v.nodes = IsDocumentIn.after_bom (subst (λ (z : Text). AreNodes true (z ++ v.following) [] v.nodes) same v.derived) in
        (v.following, (v.nodes, subst (λ (z : Text). IsDocument (z ++ v.following) v.nodes) (sym e) d))

-- one token more
following : {c d e : Control} {s r t : Text} {k : Token} → Goes c s d r → BeginsToken r k t → step d k ≡ Some e → Goes c s e t
following here b f = goes b f here
following (goes x y g) b f = goes x y (following g b f)

pub alive_in_token : AliveInToken
alive_in_token p r u c d k some g b f = longer (alive (p ++ (r ++ u)) [] d (go (went p r g refl)))
  where
    over : (q : Text) → Goes (at Gap []) (q ++ r) c r → Goes (at Gap []) ((q ++ (r ++ u)) ++ []) d []
    over q g =
        subst (λ (z : Text). Goes (at Gap []) z d []) (sym (append-nil (q ++ (r ++ u)))) (following (near_after q r (r ++ u) (more_first r u some) g) b f)

    no_bom_more : (q : Text) → begins 0xFEFF (q ++ r) ≡ false → begins 0xFEFF ((q ++ (r ++ u)) ++ []) ≡ false
    no_bom_more [] h = ap (begins 0xFEFF) (append-nil (r ++ u)) ∙ begins_first 0xFEFF (r ++ u) r (more_first r u some) ∙ h
    no_bom_more (x ∷ q) h = h

    go : Went p r c → Reaches ((p ++ (r ++ u)) ++ []) d []
    go (plain h g) = no_bom (no_bom_more p h) (over p g)
    go (marked {q = q} e g) = subst (λ (z : Text). Reaches ((z ++ (r ++ u)) ++ []) d []) (sym e) (after_bom (over q g))

    longer : Viable (p ++ (r ++ u)) → Viable (p ++ r)
    longer (w, x) = (u ++ w, subst (λ (z : Text). Derived z) (ap (λ (z : Text). z ++ w) (sym (append_assoc p r u)) ∙ append_assoc (p ++ r) u w) x)

-- U+FEFF comes before no nodes but once
no_bom_nodes : {s : Text} {xs : Nodes} → AreNodes true (0xFEFF ∷ s) [] xs → ⊥
no_bom_nodes n = let (ks, l, a) = accepted_nodes n in refused_here (at Gap []) t_bom refl l a

-- a document without U+FEFF before it, or with it
data Parts (t : Text) : Type 0 where
  nodes : {xs : Nodes} → AreNodes true t [] xs → Parts t
  bom_nodes : {s : Text} {xs : Nodes} → t ≡ 0xFEFF ∷ s → AreNodes true s [] xs → Parts t

parts : {t : Text} {xs : Nodes} → IsDocument t xs → Parts t
parts (IsDocumentIn.no_bom n) = nodes n
parts (IsDocumentIn.after_bom n) = bom_nodes refl n

bom_first : (s t : Text) {u : Text} → first s ≡ first t → begins 0xFEFF t ≡ false → s ≡ 0xFEFF ∷ u → ⊥
bom_first s t e h f = let x : begins 0xFEFF s ≡ false = begins_first 0xFEFF s t e ∙ h in let y : begins 0xFEFF s ≡ true = ap (begins 0xFEFF) f in cc

-- before or after p, a front that is not empty hides what follows it
deep_first : (p f u r : Text) → f ≢ [] → first (p ++ (f ++ u)) ≡ first (p ++ (f ++ r))
deep_first [] f u r some = front_first f u r some
deep_first (c ∷ p) f u r some = refl

pub dead_at_front : DeadAtFront
dead_at_front p f r c some g n u (xs, d) = go (went p (f ++ r) g refl) (parts (subst (λ (z : Text). IsDocument z xs) (append_assoc p f u) d))
  where
    go : Went p (f ++ r) c → Parts (p ++ (f ++ u)) → ⊥
    go (plain h g) (nodes m) = dead_nodes p f r some g n u m
    go (plain h g) (bom_nodes e m) = bom_first (p ++ (f ++ u)) (p ++ (f ++ r)) (deep_first p f u r some) h e
    go (marked {q = q} e g) (nodes {xs = ys} m) = no_bom_nodes (subst (λ (z : Text). AreNodes true (z ++ (f ++ u)) [] ys) e m)
    go (marked {q = q} e g) (bom_nodes {s = s} {xs = ys} e' m) =
        let same : 0xFEFF ∷ (q ++ (f ++ u)) ≡ 0xFEFF ∷ s = ap (λ (z : Text). z ++ (f ++ u)) (sym e) ∙ e' in
        let x : s ≡ q ++ (f ++ u) = cc in
        dead_nodes q f r some g n u (subst (λ (z : Text). AreNodes true z [] ys) x m)

pub dead_at_token : DeadAtToken
dead_at_token p r s c k g b n =
    let (q, e) = two_parts r in
    let some : r ≢ [] = λ x. no_token (subst (λ (z : Text). BeginsToken z k s) x b) in
    dead_at_front p (take 2 r) q c (two_some r some) (subst (λ (z : Text). Reaches (p ++ z) c z) e g) (refuses_two c b n)

-- a document goes on with tokens that may come, wherever the machine is
data Ahead (c : Control) (r : Text) : Type 0 where
  ahead : {ks : List Token} → Lexes r ks → accepts c ks ≡ true → Ahead c r

ahead_of : {t : Text} {c : Control} {r : Text} → Reaches t c r → Derived t → Ahead c r
ahead_of (no_bom h g) (xs, IsDocumentIn.no_bom m) = let x = rest_of g m in ahead x.lexed x.accepted
ahead_of (no_bom h g) (xs, IsDocumentIn.after_bom m) = cc
ahead_of (after_bom g) (xs, IsDocumentIn.no_bom m) = absurd (no_bom_nodes m)
ahead_of (after_bom g) (xs, IsDocumentIn.after_bom m) = let x = rest_of g m in ahead x.lexed x.accepted

stuck : {c : Control} {r : Text} → NoToken r → Ahead c r → ⊥
stuck n (ahead done a) = n.begun refl
stuck n (ahead (next {r = r} {k = k} b l) a) = n.none r k b

pub refused_at_piece : RefusedAtPiece
refused_at_piece p r c g n d = stuck n (ahead_of g d)

pub derived_at_end : DerivedAtEnd
derived_at_end t c g = (λ d. forth (ahead_of g d) refl, λ h. back g h)
  where
    forth : {r : Text} → Ahead c r → r ≡ [] → IsTrue (finish c)
    forth (ahead done a) e = a
    forth (ahead (next {r = r'} {k = k} b l) a) e = absurd (no_token (subst (λ (z : Text). BeginsToken z k r') e b))

    back : {t : Text} → Reaches t c [] → IsTrue (finish c) → Derived t
    back (no_bom h g) f = let x = reads g done f in let (xs, n) = derives x.lexed x.accepted in (xs, IsDocumentIn.no_bom n)
    back (after_bom g) f = let x = reads g done f in let (xs, n) = derives x.lexed x.accepted in (xs, IsDocumentIn.after_bom n)
