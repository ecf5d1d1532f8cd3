-- The control of entry texts takes only the tokens that the machine takes, so it accepts only texts that the grammar derives.
use Rattle.std.proofs.Common.{◌≡◌, Bool, true, false, [], Option, Some, None, option_map, refl, sym, ap, subst, ◌∙◌}
use Rattle.kdl_text.specs.Chars.{Text}
use Rattle.kdl_syntax.specs.Tokens.{Token, space, string, value, left, BeginsToken}
use Rattle.kdl_syntax.specs.declared.control.{Spot.TheVariants.Spaced, Phase.Phase, Owner.TheVariants.Name as OfName, Owner.TheVariants.Value as OfValue}
use Rattle.kdl_syntax.specs.declared.control.Phase.TheVariants.{TypeOpen, TypeName, TypeDone, InNode, Property}
use Rattle.kdl_syntax.specs.EntryControl.{entry_step, entry_finish, dropped_turn}
use Rattle.kdl_syntax.specs.declared.entry_control.EntryControl.{EntryControl, TheVariants.Ahead, TheVariants.Dropping, TheVariants.Under}
use Rattle.kdl_entry.specs.Data as data'
use Rattle.kdl_entry.specs.Entries.{IsEntryText}
use Rattle.kdl_entry.specs.Internal.EntryMachine as machine
use Rattle.kdl_entry.specs.Internal.EntryMachine.{State, phase_of, begin_to, if_taken, step, Runs, stops, reads}
use Rattle.kdl_entry.specs.Tree.{Entry}
use Rattle.kdl_entry.proofs.Reading.EntrySound.{derived}

-- the phases in an entry that has a type or a key
abbrev in_item : Phase → Bool
in_item (TypeOpen b) = true
in_item (TypeName b) = true
in_item (TypeDone b) = true
in_item Property = true
in_item _ = false

-- in an entry, the control is in no other phase
abbrev placed : EntryControl → Bool
placed (Under p) = in_item p
placed _ = true

abbrev if_placed : Option EntryControl → Bool
if_placed None = true
if_placed (Some c) = placed c

dropped : (whole : Text) (k : Token) (s r : Text) (o : Option Phase)
    → (option_map phase_of (if_taken (option_map Dropping o) (λ c. begin_to whole c k s r)) ≡ option_map Dropping o) × (if_placed (option_map Dropping o) ≡ true)
dropped whole k s r None = (refl, refl)
dropped whole k s r (Some p) = (refl, refl)

-- the control after a token is that at the state after it
same_turn : (whole : Text) (st : State) (k : Token) (s r : Text) → placed (phase_of st) ≡ true
    → (option_map phase_of (step whole st k s r) ≡ entry_step (phase_of st) k) × (if_placed (entry_step (phase_of st) k) ≡ true)
same_turn whole (machine.dropping (InNode (Spaced b))) (string v) s r h = (refl, refl)
same_turn whole (machine.dropping (InNode (Spaced b))) (value v) s r h = (refl, refl)
same_turn whole (machine.dropping (InNode (Spaced b))) left s r h = (refl, refl)
same_turn whole (machine.dropping p) k s r h = dropped whole k s r (dropped_turn p k)
same_turn whole (machine.under (TypeOpen b) it) space s r h = (refl, refl)
same_turn whole (machine.under (TypeOpen b) it) _ s r h = (refl, refl)
same_turn whole (machine.under (TypeName b) it) space s r h = (refl, refl)
same_turn whole (machine.under (TypeName b) it) _ s r h = (refl, refl)
same_turn whole (machine.under (TypeDone OfValue) it) (value v) s r h = (refl, refl)
same_turn whole (machine.under (TypeDone OfName) it) (value v) s r h = (refl, refl)
same_turn whole (machine.under (TypeDone b) it) _ s r h = (refl, refl)
same_turn whole (machine.under Property it) space s r h = (refl, refl)
same_turn whole (machine.under Property it) _ s r h = (refl, refl)
same_turn whole (machine.under _ it) k s r h = absurd cc
same_turn whole _ space s r h = (refl, refl)
same_turn whole _ _ s r h = (refl, refl)

-- from the phase on, the text is read to its end
pub data Accepts : EntryControl → Text → Type 0 where
  ends : {c : EntryControl} → entry_finish c ≡ true → Accepts c []
  takes : {c d : EntryControl} {s r : Text} {k : Token} → BeginsToken s k r → entry_step c k ≡ Some d → Accepts d r → Accepts c s

taken : (o : Option State) (d : EntryControl) → option_map phase_of o ≡ Some d → (st : State) × (o ≡ Some st) × (phase_of st ≡ d)
taken None d e = absurd cc
taken (Some st) d e = (st, refl, cc)

finished : (whole : Text) (st : State) → entry_finish (phase_of st) ≡ true → (e : Entry) × Runs whole e st []
finished whole (machine.word w f) x = (_, stops refl)
finished whole (machine.done e f) x = (_, stops refl)
finished whole machine.ahead x = absurd cc
finished whole (machine.dropping p) x = absurd cc
finished whole (machine.under p it) x = absurd cc

runs : (whole : Text) (st : State) {c : EntryControl} {s : Text} → placed (phase_of st) ≡ true → Accepts c s → phase_of st ≡ c → (e : Entry) × Runs whole e st s
runs whole st h (ends f) q = finished whole st (subst (λ (z : EntryControl). entry_finish z ≡ true) (sym q) f)
runs whole st h (takes {d = d} {s = s} {r = r} {k = k} b e a) q =
    let turn = same_turn whole st k s r h in
    let goes : entry_step (phase_of st) k ≡ Some d = ap (λ (z : EntryControl). entry_step z k) q ∙ e in
    let x = taken (step whole st k s r) d (turn.0 ∙ goes) in
    let y = runs whole x.0 (ap placed x.2 ∙ sym (ap if_placed goes) ∙ turn.1) a x.2 in
    (y.0, reads b x.1 y.1)

-- it accepts only texts that are derived
pub accepts_derived : {t : Text} → Accepts Ahead t → (x : data'.Entry) × IsEntryText t x
accepts_derived {t = t} a = let x = runs t machine.ahead refl a refl in derived t x.0 x.1
