-- What the definitions of kept spellings do not allow: for each of them something that is no instance.
use Rattle.kdl_layout.proofs.Common.{◌≡◌, Bool, true, false, [], ◌∷◌, refl, subst, sym, ap, ◌∙◌, Option, Some, None, list_all, ◌&&◌, not, is_some, Text, is_scalar, SourceSpan, Value, print_value, spelled, IsWellFormed, IsIdentifierText, Identifier, EntryFormat, Entry, DocumentFormat, Head, Document, document, Nodes, no_children, children, AreNodeSpaces, Keeping, Settings, line_text, or_empty, only_spaces, IsSpelling, KeptSpelling, IsRespelled, IsRespelledIf, IsContinued, KeptForm, KeptLeading, KeptPlace, KeptPlaceIf, KeepsForm, IsTypedFormat, entry_type_texts, HasSpellings, HasSpellingsUnless, IsRespelledHead, AreRespelledChildren, IsRespelledDocument, is_space, and-false}
use Rattle.kdl_entry.proofs.Laying.TextUnique.{one_identifier}
use Rattle.kdl_layout.specs.Respelled.{IsCommented}
use Rattle.kdl_layout.proofs.Respelling.Kept.{spaces_continue_nothing}
use Rattle.kdl_layout.proofs.Respelling.Written.{none_typed}
use Rattle.kdl_layout.proofs.Respelling.Spellings.{one_value, printed_name, printed_spelling}

-- the text that one value prints spells no other value
pub no_other_value : (v w : Value) → IsWellFormed w → (w ≡ v → ⊥) → IsSpelling v (print_value w) → ⊥
no_other_value v w ok n d = n (one_value (print_value w) w v (printed_spelling w ok) d)

-- a spelling of another string is not kept
other_name : (s t u w : Text) → list_all is_scalar t ≡ true → (t ≡ s → ⊥) → u ≡ spelled t → KeptSpelling s (Some u) (Some w) → ⊥
other_name s t u _ ok n e (KeptSpelling.kept d) = n (one_identifier true (spelled t) t s (printed_name t ok) (subst (λ (z : Text). IsIdentifierText z s) e d))

pub no_other_name : (s t : Text) → list_all is_scalar t ≡ true → (t ≡ s → ⊥) → KeptSpelling s (Some (spelled t)) (Some (spelled t)) → ⊥
no_other_name s t ok n k = other_name s t (spelled t) (spelled t) ok n refl k

-- and one of the string is not removed
pub no_name_lost : (s : Text) → list_all is_scalar s ≡ true → KeptSpelling s (Some (spelled s)) None → ⊥
no_name_lost s ok (KeptSpelling.other n) = n (printed_name s ok)

-- no spelling is put where none was
pub no_name_made : (i m i' : Identifier) (t : Text) → i.repr ≡ None → m.repr ≡ None → i'.repr ≡ Some t → IsRespelled true i m i' → ⊥
no_name_made i m i' t a b c (r, k, e) = go i.repr r k a (sym c ∙ ap (λ (x : Identifier). x.repr) e)
  where
    go : (o r : Option Text) → KeptSpelling i.value o r → o ≡ None → Some t ≡ r → ⊥
    go _ _ (KeptSpelling.kept d) h k = cc
    go _ _ (KeptSpelling.other n) h k = cc
    go _ _ KeptSpelling.unspelled h k = cc

-- no key is lost
pub no_key_lost : (keep : Bool) (i m : Identifier) → IsRespelledIf keep (Some i) (Some m) None → ⊥
no_key_lost keep i m h = h

-- a spelling of another value is not kept
pub no_other_format : (keep : Bool) (s : Settings) (x : Entry) (w : Value) (f g : EntryFormat) → IsWellFormed w → f.value_repr ≡ print_value w → (w ≡ x.value → ⊥) → (g.value_repr ≡ print_value x.value → ⊥) → KeptForm keep s x (Some f) None (Some g) → ⊥
no_other_format keep s x w f g ok e n o k = go refl refl k
  where
    go : {p q : Option EntryFormat} → p ≡ Some f → q ≡ Some g → KeptForm keep s x p None q → ⊥
    go a b (KeptForm.kept {f = f'} y d k) = let same : f' ≡ f = cc in no_other_value x.value w ok n (subst (IsSpelling x.value) e (subst (λ (z : EntryFormat). IsSpelling x.value z.value_repr) same d))
    go a b (KeptForm.bare m k) = absurd cc
    go a b (KeptForm.other {g = g'} m k w) = let same : g' ≡ g = cc in o (ap (λ (z : EntryFormat). z.value_repr) (sym same) ∙ k.value_repr)
    go a b KeptForm.formless = absurd cc

-- spaces are not kept, nor a text that may not be between two parts; a comment is not lost
pub no_spaces_kept : KeptPlace (32 ∷ []) (32 ∷ []) → ⊥
unfolding is_space
no_spaces_kept (KeptPlace.kept h) = let z : true ≡ false = h.1 in cc

pub no_other_place : (t r : Text) → (AreNodeSpaces (line_text t) → ⊥) → (r ≡ [] → ⊥) → KeptPlace t r → ⊥
no_other_place t _ n f (KeptPlace.kept h) = n h.0
no_other_place t _ n f (KeptPlace.other m) = f refl

pub no_comment_lost : (t r : Text) → IsCommented (line_text t) → r ≡ [] → KeptPlace t r → ⊥
no_comment_lost t _ h e (KeptPlace.kept (a, f)) = let z : true ≡ false = sym (ap only_spaces e) ∙ f in cc
no_comment_lost t _ h e (KeptPlace.other n) = n h

-- a line that an entry continues is not joined, and no line is continued that was not
pub no_line_joined : (s : Settings) (old laid r : Text) → IsContinued s old → (r ≡ old → ⊥) → KeptLeading s old laid r → ⊥
no_line_joined s old laid _ c n (KeptLeading.continued d) = n refl
no_line_joined s old laid _ c n (KeptLeading.other m) = m c

pub no_line_made : (s : Settings) (old laid r : Text) → only_spaces old ≡ true → (r ≡ laid → ⊥) → KeptLeading s old laid r → ⊥
no_line_made s old laid _ h n (KeptLeading.continued c) = spaces_continue_nothing h c
no_line_made s old laid _ h n (KeptLeading.other m) = n refl

-- without a type nothing is kept around it, and without comments neither
pub no_type_made : (keep : Bool) (s : Settings) (e : Entry) (f g : EntryFormat) (laid v : Text) → e.ty ≡ None → (g.after_ty ≡ [] → ⊥) → KeepsForm keep s e f laid v g → ⊥
no_type_made keep s e f g laid v h n k = n (none_typed (not s.no_comments) e.ty (entry_type_texts f) (entry_type_texts g) h k.ty)

pub no_comment_made : (keep : Bool) (s : Settings) (e : Entry) (f g : EntryFormat) (laid v : Text) → s.no_comments ≡ true → (g.after_key ≡ [] → ⊥) → KeepsForm keep s e f laid v g → ⊥
no_comment_made keep s e f g laid v h n k = n (subst (λ (b : Bool). KeptPlaceIf (not b && is_some e.name) f.after_key g.after_key) h k.after_key)

-- an entry keeps its value
pub no_other_entry : (keep : Bool) (s : Settings) (e m e' : Entry) → (e'.value ≡ m.value → ⊥) → HasSpellings keep s e m e' → ⊥
no_other_entry keep s e m e' n h = n h.value

-- an entry that is flagged is as it was laid out
pub no_flagged : (keep : Bool) (s : Settings) (e m e' : Entry) → (e' ≡ m → ⊥) → HasSpellingsUnless true keep s e m e' → ⊥
no_flagged keep s e m e' n h = n h

-- a node without a type has the texts around its parts that layout leaves, and a block stays
pub no_other_head : (comments : Bool) (s : Settings) (h m h' : Head) → h.ty ≡ None → (h'.format ≡ m.format → ⊥) → IsRespelledHead (record { spelling = true; comments = comments }) s h m h' → ⊥
no_other_head comments s h m h' e n r = n (subst (λ (b : Bool). IsTypedFormat b (or_empty h.format) m.format h'.format) (ap (λ (o : Option Identifier). not s.no_comments && is_some o) e ∙ and-false (not s.no_comments)) r.format)

pub no_block_lost : (keep : Keeping) (s : Settings) (d m : Document) → AreRespelledChildren keep s (children d) (children m) no_children → ⊥
no_block_lost keep s d m h = h

-- a document keeps its span
pub no_other_span : (keep : Keeping) (s : Settings) (f g h : Option DocumentFormat) (a b c : SourceSpan) (ns ms xs : Nodes) → (c ≡ b → ⊥) → IsRespelledDocument keep s (document f a ns) (document g b ms) (document h c xs) → ⊥
no_other_span keep s f g h a b c ns ms xs n r = n r.1
