-- An entry that is laid in a node can come before every text with a value end.
use Rattle.std.proofs.Common.{◌≡◌, Bool, true, false, ◌++◌, Option, Some, None, option_map, refl, sym, ap, subst, ◌∙◌}
use Rattle.kdl_text.specs.Chars.{Text}
use Rattle.kdl_text.specs.Trivia.{ValueEnd}
use Rattle.kdl_entry.specs.Formless.{formed_identifier, formed}
use Rattle.kdl_entry.specs.Laid.{LaidIdentifier, spelled, LaidType, no_type, a_type, LaidKey, no_key, a_key, item, LaidEntry, laid_entry}
use Rattle.kdl_entry.specs.Print.{print_entry}
use Rattle.kdl_entry.specs.Tree.{Identifier, Entry, without_span, without_spans, unflagged, without_spans_and_flag}
use Rattle.kdl_entry.proofs.Moving.EntryMoves.{move_item, move_leading, leading_end, is_move}
use Rattle.kdl_entry.proofs.Laying.FormedPrints.{formed_is}
use Rattle.kdl_entry.proofs.Laying.LaidPrints.{entry_printed}
use Rattle.kdl_entry.proofs.Laying.Respanned.{free_entry, same_entry}

-- as it prints it is laid before every text with a value end
abbrev pub CanStand : Entry → Type 0
CanStand e = (whole u : Text) → ValueEnd true u → LaidEntry false whole e (print_entry e ++ u) u

-- the entry before u
record Before (whole : Text) (e : Entry) (u : Text) : Type 0 where
  text : Text
  laid : LaidEntry false whole e text u

moved : (whole : Text) {e : Entry} {s r : Text} → LaidEntry false whole e s r → (u : Text) → ValueEnd true u → Before whole e u
moved whole (laid_entry l i x) u e =
    let b = move_item whole i in
    let a = move_leading l.is in
    record { text = a.at.put (b.at.put u); laid = laid_entry (is_move a l (b.at.put u) (b.full u)) (b.there u e) tt }

can_stand : {exact : Bool} {whole : Text} {e : Entry} {s r : Text} → LaidEntry exact whole e s r → (other u : Text) → ValueEnd true u → LaidEntry false other e (print_entry e ++ u) u
can_stand {exact = exact} {whole = whole} {e = e} d other u v =
    let b = moved other (free_entry exact whole other d) u v in
    subst (λ (t : Text). LaidEntry false other e t u) (entry_printed false other b.laid) b.laid

same_stands : {exact : Bool} {whole : Text} {e : Entry} {s r : Text} (x : Entry) → without_spans e ≡ without_spans x → LaidEntry exact whole e s r → CanStand x
same_stands {e = e} x h d other u v =
    let a = same_entry other x h (can_stand d other u v) in
    subst (λ (t : Text). LaidEntry false other x t u) (entry_printed false other a) a

-- what is spelled prints its spelling
pub own_identifier : {exact : Bool} {whole : Text} {i : Identifier} {s r : Text} → LaidIdentifier exact whole i s r → (j : Identifier) → without_span i ≡ without_span j → formed_identifier j ≡ j
own_identifier (spelled {p = p} d x) j e = go j.repr (sym (ap (λ (z : Identifier). z.repr) e))
  where
    go : (o : Option Text) → o ≡ Some p → formed_identifier (record j { repr = o }) ≡ record j { repr = o }
    go None h = cc
    go (Some q) h = refl

pub own_type : {exact : Bool} {whole : Text} {i : Option Identifier} {b a h s r : Text} → LaidType exact whole i b a h s r → (j : Option Identifier) → option_map without_span i ≡ option_map without_span j
    → option_map formed_identifier j ≡ j
own_type no_type None e = refl
own_type no_type (Some j) e = cc
own_type (a_type ss d us vs) None e = cc
own_type (a_type {i = i} ss d us vs) (Some j) e = let f : without_span i ≡ without_span j = cc in ap (λ (z : Identifier). Some z) (own_identifier d j f)

own_key : {exact : Bool} {whole : Text} {i : Option Identifier} {b h s r : Text} → LaidKey exact whole i b h s r → (j : Option Identifier) → option_map without_span i ≡ option_map without_span j
    → option_map formed_identifier j ≡ j
own_key no_key None e = refl
own_key no_key (Some j) e = cc
own_key (a_key d ss us) None e = cc
own_key (a_key {i = i} d ss us) (Some j) e = let f : without_span i ≡ without_span j = cc in ap (λ (z : Identifier). Some z) (own_identifier d j f)

own_is : {exact : Bool} {whole : Text} {e : Entry} {s r : Text} → LaidEntry exact whole e s r → (x : Entry) → without_spans_and_flag e ≡ without_spans_and_flag x → formed x ≡ unflagged x
own_is (laid_entry l (item k y v) a) x h =
    formed_is x _ (sym (ap (λ (z : Entry). z.format) h)) (own_type y x.ty (ap (λ (z : Entry). z.ty) h)) (own_key k x.name (ap (λ (z : Entry). z.name) h))

-- what is laid is not flagged
not_flagged : {exact : Bool} {whole : Text} {e : Entry} {s r : Text} → LaidEntry exact whole e s r → unflagged e ≡ e
not_flagged (laid_entry l (item k y v) a) = refl

-- so does one that is the same, spans and the flag aside
pub own_stands : {exact : Bool} {whole : Text} {e : Entry} {s r : Text} (x : Entry) → without_spans_and_flag e ≡ without_spans_and_flag x → LaidEntry exact whole e s r → CanStand (formed x)
own_stands x h d = subst CanStand (sym (own_is d x h)) (same_stands (unflagged x) (sym (ap without_spans (not_flagged d)) ∙ h) d)

-- where an entry is, a value ends before it
pub entry_end : {exact : Bool} {whole : Text} {e : Entry} {s r : Text} → LaidEntry exact whole e s r → ValueEnd true s
entry_end (laid_entry l i x) = leading_end l.is
