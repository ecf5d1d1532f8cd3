-- What a token, the end of the text and a U+FEFF do to a text that is accepted.
use Rattle.std.proofs.Common.{◌≡◌, ◌↔◌, Bool, true, false, [], ◌∷◌, Option, Some, None, option_map, refl, sym, ap, subst, ◌∙◌}
use Rattle.kdl_text.specs.Chars.{Text, Star, plus, begins}
use Rattle.kdl_text.specs.Chars.Star.{none as no_star, more}
use Rattle.kdl_text.specs.Internal.Here.{Here, Ate}
use Rattle.kdl_text.specs.Trivia.{NodeSpace}
use Rattle.kdl_syntax.specs.Internal.Handed.{Cuts, one, spaces}
use Rattle.kdl_syntax.specs.Tokens.{Token, space, BeginsToken, t_space, t_bom, NoToken}
use Rattle.kdl_syntax.proofs.Lexing.TokenUnique.{token_det, no_token}
use Rattle.kdl_syntax.specs.Control as c
use Rattle.kdl_syntax.specs.declared.control.{Phase.TheVariants.Gap, Phase.TheVariants.InNode, Spot.TheVariants.Fresh}
use Rattle.kdl_syntax.specs.EntryControl as e
use Rattle.kdl_syntax.specs.declared.entry_control.EntryControl.{EntryControl, TheVariants.Dropping, TheVariants.Under}
use Rattle.kdl_syntax.specs.NodeControl.{NodeControl, in_text, node_step}
use Rattle.kdl_diagnostics.specs.TextControl.{TextControl, in_document, in_node, in_entry, in_identifier, text_step, text_finish, text_start, Takes, ends, takes, AcceptsDocument, no_bom, after_bom}
use Rattle.kdl_diagnostics.specs.declared.whole.Whole.TheVariants.{Document}

abbrev pub Of : {S : Type 0} → (S → Type 0) → Option S → Type 0
Of P None = Unit {0}
Of P (Some d) = P d

-- a space more changes nothing
control_again : (y : c.Control) → Of (λ z. c.step z space ≡ Some z) (c.step y space)
control_again (c.at (InNode (Fresh w)) fs) = refl
control_again (c.at p fs) = refl

node_again : (n : NodeControl) → Of (λ m. node_step m space ≡ Some m) (node_step n space)
node_again (in_text true (c.at Gap [])) = refl
node_again (in_text false (c.at Gap [])) = refl
node_again (in_text b (c.at (InNode (Fresh w)) fs)) = refl
node_again (in_text b (c.at p fs)) = refl

pub entry_again : (p : EntryControl) → Of (λ q. e.entry_step q space ≡ Some q) (e.entry_step p space)
entry_again (Dropping (InNode (Fresh w))) = refl
entry_again (Under (InNode q)) = refl
entry_again p = refl

lifted : {S : Type 0} (step : S → Token → Option S) (wrap : S → TextControl) → ((s : S) → text_step (wrap s) space ≡ option_map wrap (step s space)) → (o : Option S) → Of (λ z. step z space ≡ Some z) o → Of (λ z. text_step z space ≡ Some z) (option_map wrap o)
lifted step wrap h None a = tt
lifted step wrap h (Some z) a = h z ∙ ap (option_map wrap) a

again : (t : TextControl) → Of (λ z. text_step z space ≡ Some z) (text_step t space)
again (in_document m) = lifted c.step in_document (λ s. refl) (c.step m space) (control_again m)
again (in_node m) = lifted node_step in_node (λ s. refl) (node_step m space) (node_again m)
again (in_entry m) = lifted e.entry_step in_entry (λ s. refl) (e.entry_step m space) (entry_again m)
again (in_identifier true) = tt
again (in_identifier false) = tt

-- a text that is taken goes on after its first token
taken : {m : TextControl} {s r : Text} {k : Token} → BeginsToken s k r → Takes m s → (d : TextControl) × (text_step m k ≡ Some d) × Takes d r
taken b (ends f) = absurd (no_token b)
taken {m = m} {r = r} {k = k} b (takes {d = d} {r = r'} {k = j} u e a) =
    let same = token_det u b in
    (d, subst (λ (z : Token). text_step m z ≡ Some d) same.1 e, subst (λ (z : Text). Takes d z) same.0 a)

-- one token
over_one : {m d : TextControl} {s r : Text} {k : Token} → BeginsToken s k r → text_step m k ≡ Some d → Takes d r ↔ Takes m s
over_one {d = d} {r = r} b e = (λ a. takes b e a, λ a. let x = taken b a in let same : x.0 ≡ d = (let y = x.1 in cc) in subst (λ (z : TextControl). Takes z r) same x.2)

over_spaces : {m : TextControl} {s r : Text} → text_step m space ≡ Some m → Star NodeSpace s r → Takes m r ↔ Takes m s
over_spaces e no_star = (λ a. a, λ a. a)
over_spaces e (more n m) =
    let x = over_one (t_space n) e in
    let y = over_spaces e m in
    (λ a. x.0 (y.0 a), λ a. y.1 (x.1 a))

-- what was handed out
pub over : {m d : TextControl} {s r : Text} {k : Token} → Cuts s k r → text_step m k ≡ Some d → Takes d r ↔ Takes m s
over (one b) e = over_one b e
over {m = m} (spaces (plus n ss)) e =
    let x = over_one (t_space n) e in
    let y = over_spaces (subst (Of (λ z. text_step z space ≡ Some z)) e (again m)) ss in
    (λ a. x.0 (y.0 a), λ a. y.1 (x.1 a))

-- where the next token is refused, or none begins, or the text ends
pub refuses : {m : TextControl} {s r : Text} {k : Token} → Cuts s k r → text_step m k ≡ None → Takes m s → ⊥
refuses (one b) e a = let x = taken b a in let y = x.1 in cc
refuses (spaces (plus n ss)) e a = let x = taken (t_space n) a in let y = x.1 in cc

pub none_begins : {m : TextControl} {s : Text} → NoToken s → Takes m s → ⊥
none_begins n (ends f) = n.begun refl
none_begins n (takes {r = r} {k = k} b e a) = n.none r k b

pub at_end : {m : TextControl} {s : Text} → s ≡ [] → text_finish m ≡ true ↔ Takes m s
at_end {m = m} q = (λ f. subst (λ (z : Text). Takes m z) (sym q) (ends f), λ a. go a q)
  where
    go : {s : Text} → Takes m s → s ≡ [] → text_finish m ≡ true
    go (ends f) q = f
    go (takes {r = r} {k = k} b e a) q = absurd (no_token (subst (λ (z : Text). BeginsToken z k r) q b))

-- a document after its U+FEFF, or without one
bom_refused : {s : Text} → Takes (text_start Document) (0xFEFF ∷ s) → ⊥
bom_refused a = let x = taken t_bom a in let y = x.1 in cc

after_mark : (s t : Text) → t ≡ 0xFEFF ∷ s → AcceptsDocument t → Takes (text_start Document) s
after_mark s t e (no_bom a) = absurd (bom_refused (subst (λ (z : Text). Takes (text_start Document) z) e a))
after_mark s t e (after_bom {t = u} a) = let x : u ≡ s = cc in subst (λ (z : Text). Takes (text_start Document) z) x a

without_mark : (t : Text) → begins 0xFEFF t ≡ false → AcceptsDocument t → Takes (text_start Document) t
without_mark t h (no_bom a) = a
without_mark t h (after_bom a) = cc

pub bom : (eaten : Bool) (old new : Here) → Ate 0xFEFF eaten old new → Takes (text_start Document) new.rest ↔ AcceptsDocument old.rest
bom true old new a = (λ x. subst (λ (z : Text). AcceptsDocument z) (sym a.0) (after_bom x), λ x. after_mark new.rest old.rest a.0 x)
bom false old new a =
    let e : new.rest ≡ old.rest = ap (λ (h : Here). h.rest) a.1 in
    (λ x. no_bom (subst (λ (z : Text). Takes (text_start Document) z) e x), λ x. subst (λ (z : Text). Takes (text_start Document) z) (sym e) (without_mark old.rest a.0 x))
