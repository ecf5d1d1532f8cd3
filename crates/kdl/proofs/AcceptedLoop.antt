-- The loop over the kinds of the tokens of a document.
use Rattle.std.proofs.Common.{◌≡◌, ◌↔◌, ◌<◌, Bool, true, false, [], length, Option, Some, None, option_map, refl, sym, ap, ◌∙◌}
use Rattle.kdl_text.specs.Chars.{Text}
use Rattle.kdl_syntax.specs.Tokens.{Token, string, NoToken}
use Rattle.kdl_syntax.specs.Control.{Control, at, after, event_of, step, finish}
use Rattle.kdl_syntax.specs.Internal.Handed.{Cuts, kind_view}
use Rattle.kdl_syntax.specs.declared.control.{Owner.TheVariants.Name as OfName, Owner.TheVariants.Value as OfValue, Phase.Phase, Spot.TheVariants.Fresh, Spot.TheVariants.Spaced, Spot.TheVariants.Later}
use Rattle.kdl_syntax.specs.declared.control.Phase.TheVariants.{TypeDone, InNode}
use Rattle.kdl_syntax.specs.declared.events.Event.{Event}
use Rattle.kdl_syntax.specs.declared.lexer.TokenKind.{TokenKind}
use Rattle.kdl.specs.Internal.Kinds.{IsLike}
use Rattle.kdl_diagnostics.specs.TextControl.{in_document, Takes}
use Rattle.kdl_diagnostics.proofs.Accepting.{over, refuses, none_begins, at_end}
use Rattle.kdl_diagnostics.proofs.FrontReads.{cut_shorter}

-- the value of a string makes no difference
same_event : (p : Phase) (v w : Text) → event_of p (string v) ≡ event_of p (string w)
same_event (TypeDone OfName) v w = refl
same_event (TypeDone OfValue) v w = refl
same_event (InNode (Fresh x)) v w = refl
same_event (InNode (Spaced x)) v w = refl
same_event (InNode Later) v w = refl
same_event p v w = refl

same_step : (c : Control) (j k : Token) → IsLike j k → step c j ≡ step c k
same_step (at p fs) (string v) (string w) e = ap (λ (o : Option Event). after o fs) (same_event p v w)
same_step c (string v) k e = ap (step c) e
same_step c j k e = ap (step c) e

module _ {P : Type 0} (s r : Text) (t : TokenKind) (c : Control) (x : Takes (in_document c) s ↔ P) where
  pub next_taken : (d : Control) → (k : Token) × Cuts s k r × IsLike k (kind_view t) → step c (kind_view t) ≡ Some d → Takes (in_document d) r ↔ P
  next_taken d (k, cuts, like) e =
      let y = over cuts (ap (option_map in_document) (same_step c k (kind_view t) like ∙ e)) in
      (λ a. x.0 (y.0 a), λ p. y.1 (x.1 p))

  pub next_refused : (k : Token) × Cuts s k r × IsLike k (kind_view t) → step c (kind_view t) ≡ None → false ≡ true ↔ P
  next_refused (k, cuts, like) e = (λ q. absurd cc, λ p. absurd (refuses cuts (ap (option_map in_document) (same_step c k (kind_view t) like ∙ e)) (x.1 p)))

pub next_shorter : (s r : Text) (t : TokenKind) → (k : Token) × Cuts s k r × IsLike k (kind_view t) → length r < length s
next_shorter s r t (k, cuts, like) = cut_shorter cuts

pub ended : {P : Type 0} (b : Bool) (s : Text) (c : Control) → s ≡ [] → b ≡ finish c → Takes (in_document c) s ↔ P → b ≡ true ↔ P
ended b s c n f x = let y = at_end n in (λ q. x.0 (y.0 (sym f ∙ q)), λ p. f ∙ y.1 (x.1 p))

pub faulty : {P : Type 0} (s : Text) (c : Control) → NoToken s → Takes (in_document c) s ↔ P → false ≡ true ↔ P
faulty s c n x = (λ q. absurd cc, λ p. absurd (none_begins n (x.1 p)))
