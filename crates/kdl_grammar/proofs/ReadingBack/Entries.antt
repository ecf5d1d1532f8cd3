-- Entries without format and spelling, entries with another value, and nodes made of a name read back.
use Rattle.std.proofs.Common.{◌≡◌, true, List, [], ◌∷◌, ◌++◌, Option, Some, None, option_map, refl, sym, ap, subst, append-nil}
use Rattle.std.proofs.lemmas.List.Elements.{All-nil}
use Rattle.kdl_text.specs.Chars.{Text, Star, is_newline_char, Newline}
use Rattle.kdl_text.specs.Trivia.{ValueEnd}
use Rattle.kdl_text.specs.declared.span.SourceSpan.{SourceSpan}
use Rattle.kdl_value.specs.Data.{Value}
use Rattle.kdl_value.specs.Print.{print_value}
use Rattle.kdl_value.specs.WellFormed.{IsWellFormed}
use Rattle.kdl_entry.specs.Data as entry_data'
use Rattle.kdl_entry.specs.Entries.{IsString, IsPlainValue, untyped, IsIdentifierText}
use Rattle.kdl_entry.specs.Formless.{IsFormless, formed}
use Rattle.kdl_entry.specs.Print.{print_identifier, print_type, print_key}
use Rattle.kdl_entry.specs.Tree.{Identifier, EntryFormat, Entry, unspelled}
use Rattle.kdl_entry.proofs.Laying.FormlessLaid.{formless_stands}
use Rattle.kdl_entry.proofs.Laying.ValueReadsBack.{printed_value}
use Rattle.kdl_entry.proofs.Moving.EntryMoves.{move_string}
use Rattle.kdl_syntax.proofs.Moving.Puts.{same_piece}
use Rattle.kdl_grammar.specs.Data as data'
use Rattle.kdl_grammar.specs.Grammar.{Terminator, named, AfterName, no_gap}
use Rattle.kdl_grammar.specs.Places.{after, before}
use Rattle.kdl_grammar.specs.ReadsBack.{Anything, front_text, value_text, entry_trailing, entry_with, EntryReads, Terminates, NodeReads, reads, no_block}
use Rattle.kdl_grammar.specs.Tree.{NodeFormat, node, no_children}
use Rattle.kdl_grammar.proofs.ReadingBack.LaidReads.{entry_reads}

-- an entry with the same front and value
moved : {q q' r u t : Text} {v : Value} {x x' : entry_data'.Entry} {es : List entry_data'.Entry} {k : data'.Children} → q ≡ q' → x ≡ x' → IsPlainValue true r u v → AfterName true (q ++ r) t (x ∷ es) k → AfterName true (q' ++ r) t (x' ∷ es) k
moved {q' = q'} {r = r} {t = t} {x = x} {es = es} {k = k} a b p d = subst (λ (y : entry_data'.Entry). AfterName true (q' ++ r) t (y ∷ es) k) b (subst (λ (y : Text). AfterName true (y ++ r) t (x ∷ es) k) a d)

moved_value : {w w' r : Text} {v v' : Value} → w ≡ w' → v ≡ v' → IsPlainValue true (w ++ r) r v → IsPlainValue true (w' ++ r) r v'
moved_value {w' = w'} {r = r} {v = v} a b d = subst (λ (y : Value). IsPlainValue true (w' ++ r) r y) b (subst (λ (y : Text). IsPlainValue true (y ++ r) r v) a d)

pub same_reads : (e e' : Entry) → front_text e e.format ≡ front_text e' e'.format → ((v : Value) → entry_with e v ≡ entry_with e' v) → value_text e e.format ≡ value_text e' e'.format → e.value ≡ e'.value → entry_trailing e'.format ≡ [] → EntryReads e → EntryReads e'
same_reads e e' a b c d t E = record {
  begins = λ r. subst (λ (x : Text). ValueEnd true (x ++ r)) a (E.begins r);
  front = λ p k. moved a (b _) p (E.front p k);
  value = λ x. moved_value c d (E.value x);
  trailing = t;
}

-- without a format its front is that of the form that it prints
module _ (v : Value) (at : SourceSpan) where
  abbrev an_entry : Option Identifier → Option Identifier → Entry
  an_entry ty name = record { ty = ty; value = v; name = name; format = None; span = at }

  formless_front : (ty name : Option Identifier) → EntryReads (formed (an_entry ty name)) → EntryReads (an_entry ty name)
  formless_front None None E = same_reads _ (an_entry None None) refl (λ v. refl) refl refl refl E
  formless_front None (Some k) E = same_reads _ (an_entry None (Some k)) (ap (λ (z : Text). 32 ∷ z) (append-nil (print_key (Some k) [] [] ++ []))) (λ v. refl) refl refl refl E
  formless_front (Some y) None E = same_reads _ (an_entry (Some y) None) (ap (λ (z : Text). 32 ∷ z) (append-nil (print_type (Some y) [] []))) (λ v. refl) refl refl refl E
  formless_front (Some y) (Some k) E = same_reads _ (an_entry (Some y) (Some k)) (ap (λ (z : Text). 32 ∷ z) (append-nil (print_key (Some k) [] [] ++ print_type (Some y) [] []))) (λ v. refl) refl refl refl E

-- an entry without format and spelling
pub formless_reads : (e : Entry) → IsFormless e → EntryReads e
formless_reads e f = subst EntryReads f.plain (formless_front e.value e.span (option_map unspelled e.ty) (option_map unspelled e.name) (subst (λ (x : Entry). EntryReads (formed x)) (sym f.plain) (entry_reads (formless_stands [] e [] f ValueEnd.nothing))))

-- an entry with another value, and its spelling where it has a format
abbrev pub spelled_with : Value → EntryFormat → EntryFormat
spelled_with v f = record f { value_repr = print_value v }

abbrev pub with_value : Value → Entry → Entry
with_value v e = record e { value = v; format = option_map (spelled_with v) e.format }

other_value : (e : Entry) (v : Value) (o : Option EntryFormat) → IsWellFormed v → EntryReads (record e { format = o }) → EntryReads (record e { value = v; format = option_map (spelled_with v) o })
other_value e v None ok E = record { begins = λ r. E.begins r; front = λ p d. E.front p d; value = λ x. printed_value v _ ok x; trailing = refl }
other_value e v (Some f) ok E = record { begins = λ r. E.begins r; front = λ p d. E.front p d; value = λ x. printed_value v _ ok x; trailing = E.trailing }

pub value_reads : (e : Entry) (v : Value) → EntryReads e → IsWellFormed v → EntryReads (with_value v e)
value_reads e v E ok = other_value e v e.format ok E

-- a name that is read alone is read before each value end
name_reads : (i : Identifier) → IsIdentifierText (print_identifier i) i.value → (u : Text) → ValueEnd true u → IsString true (print_identifier i ++ u) u i.value
name_reads i d u e =
    let m = move_string d in
    subst (λ (t : Text). IsString true t u i.value) (same_piece (print_identifier i) m.at (sym (append-nil (print_identifier i))) u) (m.there u e)

lf_terminates : Terminates Anything (10 ∷ [])
unfolding is_newline_char
lf_terminates = λ r s xs p z d. (r, Terminator.newline (Newline.one refl refl), d)

-- the format of a new node: no text but an LF after its terminator
abbrev pub new_format : NodeFormat
new_format = record {
  leading = [];
  before_ty_name = [];
  after_ty_name = [];
  after_ty = [];
  before_children = [];
  before_terminator = [];
  terminator = [];
  trailing = 10 ∷ [];
}

-- a new node with a name
pub new_reads : (name : Identifier) (at : SourceSpan) → IsIdentifierText (print_identifier name) name.value
    → NodeReads Anything (node (record { ty = None; name = name; entries = []; format = Some new_format; span = at }) no_children)
new_reads name at ok = reads refl
    (record { leading = λ r. no_gap; name = λ v d. named untyped (name_reads name ok _ v) d; entries = All-nil EntryReads })
    no_block
    (record { place = λ r p t. before Star.none (after Star.none Star.none); terminator = lf_terminates })
