-- Where the place under way and the place in a type or after `=` began lies before the text that is left.
use Rattle.std.proofs.Common.{◌≡◌, List, [], ◌∷◌, Option, Some, None, subst}
use Rattle.kdl_text.specs.Chars.{Text}
use Rattle.kdl_entry.proofs.Slicing.Between.{in_order_here, in_order_on, then_ends}
use Rattle.kdl_syntax.specs.Tokens.{Token, space, newline, string, value, left, right, opening, closing, equals, semicolon}
use Rattle.kdl_grammar.specs.Internal.Machine.{Under, Kept, Slot, no_name, for_name, no_value, for_value, pending, fresh, spaced, Phase, gap, type_open, type_name, type_done, in_node, property, kept, Frame, in_block, in_dropped, in_later, State, at, origin, kept_text, moved, popped, step}
use Rattle.kdl_parser.specs.Internal.Building.{node_now, kept_now, nodes_now, frames_view, phase_now, reading_view, state_view, EndsIn, InOrder, place_placed, phase_placed, Placed}
use Rattle.kdl_syntax.specs.Control as c
use Rattle.kdl_syntax.specs.declared.control.{Owner.TheVariants.Name as OfName, Owner.TheVariants.Value as OfValue}
use Rattle.kdl_grammar.specs.Tree.{Node, Nodes}
use Rattle.kdl_parser.specs.Internal.Dropping.{Reading, nothing, node, part, reading_state}
use Rattle.kdl_parser.specs.declared.builder.Builder.{Builder}

abbrev AllPlaced : Text → Option State → Text → Type 0
AllPlaced t None r = Unit {0}
AllPlaced t (Some st) r = Placed t st r

-- the token is in s before r, in the text `whole`
module _ (whole s r : Text) (v : EndsIn whole s) (b : EndsIn s r) where
  here : InOrder whole r r
  here = in_order_here (then_ends v b)

  there : InOrder whole s r
  there = (v, then_ends v b, b)

  moved_ends : (c : Slot) {from : Text} → InOrder whole from r → InOrder whole (moved c from r) r
  moved_ends no_name a = a
  moved_ends (for_name q h) a = here
  moved_ends (no_value u) a = a
  moved_ends (for_value u q h k) a = here

  origin_ends : {A : Type 0} (o : Option A) {from t : Text} → InOrder whole from r → InOrder whole t r → InOrder whole (origin o from t) r
  origin_ends None a d = a
  origin_ends (Some x) a d = d

  place_here : (c : Slot) → place_placed whole c (kept_text c r) r
  place_here no_name = tt
  place_here (for_name q h) = here
  place_here (no_value u) = tt
  place_here (for_value u q h k) = here

  place_on : (c : Slot) (a : Text) → place_placed whole c a s → place_placed whole c a r
  place_on no_name a x = tt
  place_on (for_name q h) a x = in_order_on x b
  place_on (no_value u) a x = tt
  place_on (for_value u q h k) a x = in_order_on x b

  popped_placed : (l : Option Nodes) (fs : List Frame) (from t : Text) → InOrder whole from r → AllPlaced whole (popped whole l fs from t r) r
  popped_placed l [] from t a = tt
  popped_placed l (in_block u q m ∷ fs) from t a = (origin_ends u a here, tt)
  popped_placed l (in_dropped u m ∷ fs) from t a = (a, tt)
  popped_placed l (in_later x m ∷ fs) from t a = (a, tt)

  all_placed : (p : Phase) (k : Token) (l : Option Nodes) (fs : List Frame) (from : Text) → InOrder whole from r → phase_placed whole p s → AllPlaced whole (step whole (at p l fs from) k s r) r
  all_placed gap (string v) l fs from a y = (moved_ends _ a, tt)
  all_placed gap left l fs from a y = (a, place_here _)
  all_placed gap closing l fs from a y = popped_placed _ fs _ s a
  all_placed (type_open f c d) space l fs from a y = (a, place_on c d y)
  all_placed (type_open f c d) (string v) l fs from a y = (a, place_here c)
  all_placed (type_name f c q i d) space l fs from a y = (a, place_on c d y)
  all_placed (type_name f c q i d) right l fs from a y = (a, place_here c)
  all_placed (type_done f c q i e d) space l fs from a y = (a, place_on c d y)
  all_placed (type_done OfName c q i e d) (string v) l fs from a y = (moved_ends c a, tt)
  all_placed (type_done OfValue c q i e d) (string v) l fs from a y = (moved_ends c a, tt)
  all_placed (type_done OfValue c q i e d) (value v) l fs from a y = (moved_ends c a, tt)
  all_placed (type_done OfName c q i e d) (value v) l fs from a y = tt
  all_placed (property c i e d) space l fs from a y = (a, place_on c d y)
  all_placed (property c i e d) (string v) l fs from a y = (moved_ends _ a, tt)
  all_placed (property c i e d) (value v) l fs from a y = (moved_ends _ a, tt)
  all_placed (property c i e d) left l fs from a y = (a, place_here _)
  all_placed (in_node u (spaced o)) (string v) l fs from a y = (moved_ends _ a, tt)
  all_placed (in_node u (spaced o)) (value v) l fs from a y = (moved_ends _ a, tt)
  all_placed (in_node u (spaced o)) left l fs from a y = (a, place_here _)
  all_placed (in_node u (spaced (Some (pending c i e)))) equals l fs from a y = (a, place_here c)
  all_placed (in_node u (fresh (Some (pending c i e)))) equals l fs from a y = (a, place_here c)
  all_placed (in_node u p) newline l fs from a y = (origin_ends u a here, tt)
  all_placed (in_node u p) semicolon l fs from a y = (origin_ends u a here, tt)
  all_placed (in_node u p) closing l fs from a y = popped_placed _ fs _ s (origin_ends u a there)
  all_placed (in_node u p) opening l fs from a y = (origin_ends u a here, tt)
  all_placed (kept x) newline l fs from a y = (origin_ends x a here, tt)
  all_placed (kept x) semicolon l fs from a y = (origin_ends x a here, tt)
  all_placed (kept x) closing l fs from a y = popped_placed _ fs _ s (origin_ends x a there)
  all_placed p space l fs from a y = (a, tt)
  all_placed p k l fs from a y = search

  placed_of : (p : Phase) (k : Token) (l : Option Nodes) (fs : List Frame) (from : Text) → Placed whole (at p l fs from) s → AllPlaced whole (step whole (at p l fs from) k s r) r
  placed_of p k l fs from a = all_placed p k l fs from (in_order_on a.0 b) a.1

pub placed_step : (whole : Text) (st st' : State) (k : Token) (s r : Text) → step whole st k s r ≡ Some st' → Placed whole st s → EndsIn s r → Placed whole st' r
placed_step whole (at p l fs from) st' k s r e a b = subst (λ (z : Option State). AllPlaced whole z r) e (placed_of whole s r a.0.1 b p k l fs from a)

-- the place where the builder is begins before s
reading_from : (t : Text) (u : Under) (x : Kept) (p : Phase) (l : Option Nodes) (fs : List Frame) (from s : Text) (d : Reading) → Placed t (reading_state u x l fs from (at p l fs from) d) s → InOrder t from s
reading_from t u x p l fs from s nothing a = a.0
reading_from t u x p l fs from s (node (c.at q [])) a = a.0
reading_from t u x p l fs from s (node (c.at q (g ∷ gs))) a = a.0
reading_from t u x p l fs from s (part (c.at q [])) a = a.0
reading_from t u x p l fs from s (part (c.at q (g ∷ gs))) a = a.0

pub state_from : {N : Type 0} (tree : N → Node) (b : Builder N) (t s : Text) → Placed t (state_view tree b) s → InOrder t b.from.rest s
state_from tree b t s a = reading_from t (node_now b) (kept_now tree b) (phase_now tree b b.phase) (nodes_now tree b) (frames_view tree b) b.from.rest s (reading_view b.dropped) a
