-- Where a front ends, and where the reader of faults begins.
use Rattle.std.proofs.Common.{◌≡◌, ◌↔◌, ◌+◌, ◌-◌, ◌<◌, ℕ, Bool, true, false, List, [], ◌∷◌, ◌++◌, length, Option, Some, None, Result, Ok, Err, refl, sym, ap, subst, ◌∙◌, arith}
use Rattle.std.specs.Prelude.{IfOk, option_to_list}
use Rattle.std.specs.Option.{IfSome, IsSome, MatchOption}
use Rattle.std.proofs.lemmas.List.{length_push}
use Rattle.std.proofs.lemmas.List.Elements.{All-nil, All-pop}
use Rattle.kdl_text.specs.Chars.{Text}
use Rattle.kdl_text.specs.Internal.Here.{Here, Position}
use Rattle.kdl_syntax.specs.Internal.Handed.{HandsOut, kind_view}
use Rattle.kdl_syntax.specs.Tokens.{Token, space, newline, slashdash, string, value, left, right, opening, closing, equals, semicolon, bom, NoToken}
use Rattle.kdl_syntax.specs.declared.lexer.Token.{Token as CodeToken}
use Rattle.kdl_diagnostics.specs.Internal.Noted.{Counts, Untold}
use Rattle.kdl_diagnostics.specs.Internal.Outsets.{EndsBefore, GoesOver, IsNew, BeginsAt, at_the_end, earlier, IsReady, IsStopped, Lacking, LacksAt, Matched, depth, text_view}
use Rattle.kdl_diagnostics.specs.TextControl.{TextControl, Takes, text_finish, text_start, text_step}
use Rattle.kdl_diagnostics.specs.declared.front.Prefix.{Prefix}
use Rattle.kdl_text.specs.declared.span.SourceSpan.{SourceSpan}
use Rattle.kdl_diagnostics.specs.declared.reader.Reader.{Reader}
use Rattle.kdl_diagnostics.specs.declared.state.Progress.{Progress}
use Rattle.kdl_diagnostics.specs.declared.text_control.TextControl.{TextControl as Control}
use Rattle.kdl_diagnostics.specs.declared.whole.Whole.{Whole}
use Rattle.kdl_diagnostics.specs.declared.whole.Whole.TheVariants.{Document, Node, Entry, Identifier}
use Rattle.kdl_diagnostics.proofs.Accepting.{over, refuses, none_begins, at_end}
use Rattle.kdl_diagnostics.proofs.FrontReads.{cut_shorter}
use Rattle.kdl_diagnostics.proofs.OpenCount.{counted}

-- what holds of a value holds of what follows from it
pub if_ok : {A E : Type 0} {P Q : A → Type 0} (r : Result A E) → ((x : A) → P x → Q x) → IfOk r P → IfOk r Q
if_ok (Ok x) f p = f x p
if_ok (Err e) f p = tt

-- what holds in any case
pub on_ok : {A E P : Type 0} (r : Result A E) → P → IfOk r (λ (x : A). P)
on_ok (Ok x) p = p
on_ok (Err e) p = tt

pub not_empty : {A : Type 0} (xs : List A) → (xs ≡ [] → ⊥) → 0 < length xs
not_empty [] h = absurd (h refl)
not_empty (x ∷ xs) h = omega arith

pub pushed : {A : Type 0} (old new : List A) (x : A) → new ≡ old ++ (x ∷ []) → length new ≡ length old + 1
pushed old new x e = ap length e ∙ length_push old x

pub popped : {A : Type 0} (m n : ℕ) (r : Option A) → MatchOption r ((m ≡ 0) × (n ≡ 0)) (λ _. n + 1 ≡ m) → n ≡ m - 1
popped m n None e = omega (arith, e.0, e.1)
popped m n (Some x) e = omega (arith, e)

-- a front that ends after no string, number or keyword
pub ends_at : (rest : Text) (f : Prefix) → f.place.rest ≡ rest → f.from.rest ≡ rest → (text_finish (text_view f.control) ≡ false → LacksAt f.control.whole (depth (text_view f.control)) f.before) → Matched f → EndsBefore rest f
ends_at rest f p q h m = record { place = p; from = λ e. (sym q ∙ e, λ x. subst (λ (n : ℕ). LacksAt f.control.whole n f.before) (sym m.0) (h x)); matched = m }

-- a front that ends after a string, number or keyword
pub ends_word : (k : CodeToken) (f : Prefix) → f.place ≡ k.at.end → f.from ≡ k.at.start → (k.at.start.rest ≡ [] → ⊥) → Matched f → EndsBefore k.at.end.rest f
ends_word k f p q n m = record { place = ap (λ (p : Position). p.rest) p; from = λ e. absurd (n (sym (ap (λ (p : Position). p.rest) q) ∙ e)); matched = m }

-- the open blocks
same_count : (k : Token) (m n o : ℕ) → Counts k m n → Counts k m o → n ≡ o
same_count opening m n o e f = e ∙ sym f
same_count closing m n o e f = e ∙ sym f
same_count space m n o e f = e ∙ sym f
same_count newline m n o e f = e ∙ sym f
same_count slashdash m n o e f = e ∙ sym f
same_count (string v) m n o e f = e ∙ sym f
same_count (value v) m n o e f = e ∙ sym f
same_count left m n o e f = e ∙ sym f
same_count right m n o e f = e ∙ sym f
same_count equals m n o e f = e ∙ sym f
same_count semicolon m n o e f = e ∙ sym f
same_count bom m n o e f = e ∙ sym f

pub matched : (k : Token) (a b : TextControl) (m n : ℕ) → text_step a k ≡ Some b → m ≡ depth a → Counts k m n → n ≡ depth b
matched k a b m n e f c = same_count k (depth a) n (depth b) (subst (λ (z : ℕ). Counts k z n) f c) (counted a b k e)

pub untold_less : (old new : List (Option SourceSpan)) (r : Option (Option SourceSpan)) → old ≡ new ++ option_to_list r → Untold old → Untold new × IfSome r IsSome
untold_less old new r e x = All-pop IsSome old new r e x

-- where the reader of faults begins
lacking : (w : Whole) (n : ℕ) (o : Progress) (r : Reader) → LacksAt w n o → Untold r.notes.blocks.items → r.is_cut ≡ false → n ≡ length r.notes.blocks.items → r.state.whole ≡ w → r.state.phase ≡ o.phase → r.state.has_item ≡ o.has_item → Lacking r
lacking w n o r x u c e f g h = record {
  lacks = rw (f, g, h) (subst (λ (z : ℕ). LacksAt w z o) e x);
  untold = u;
  cut = c;
}

pub ready : (f : Prefix) (o : Progress) (r : Reader) → IsStopped f → BeginsAt f o r.cursor → r.state.whole ≡ f.control.whole → r.state.phase ≡ o.phase → r.state.has_item ≡ o.has_item → r.notes ≡ f.notes → r.is_cut ≡ false → IsReady r
ready f o r s (at_the_end e l) w p i n c z =
    let (g, m) = s.place (sym e ∙ z) in
    lacking f.control.whole (depth (text_view f.control)) o r (l g) (rw n m.1) c (sym m.0 ∙ ap (λ k. length k.blocks.items) (sym n)) w p i
ready f o r s (earlier e b) w p i n c z =
    let (l, u) = s.from (sym e ∙ z) in
    lacking f.control.whole (length f.notes.blocks.items) o r (rw b l) (rw n u) c (ap (λ k. length k.blocks.items) (sym n)) w p i

-- the front at the start of a text
pub new_matched : (f : Prefix) → IsNew f → Matched f
new_matched f n = (ap length n.blocks ∙ sym (ap depth n.control ∙ no_depth f.control.whole), subst Untold (sym n.blocks) (All-nil IsSome))
  where
    no_depth : (w : Whole) → depth (text_start w) ≡ 0
    no_depth Document = refl
    no_depth Node = refl
    no_depth Entry = refl
    no_depth Identifier = refl

pub starts : {P : Type 0} (s : Text) (w : Whole) (c d : Control) → d ≡ c → text_view c ≡ text_start w → Takes (text_start w) s ↔ P → Takes (text_view d) s ↔ P
starts {P = P} s w c d e f x = subst (λ (t : TextControl). Takes t s ↔ P) (sym (ap text_view e ∙ f)) x

-- a front goes on over a token that is taken, and stops where none is
pub over_token : {P : Type 0} (a b : Here) (k : CodeToken) (f g : Prefix) → HandsOut a k b → text_step (text_view f.control) (kind_view k.kind) ≡ Some (text_view g.control) → Takes (text_view f.control) a.rest ↔ P → Takes (text_view g.control) b.rest ↔ P
over_token a b k f g h e x = let y = over h.cuts e in (λ t. x.0 (y.0 t), λ p. y.1 (x.1 p))

pub ends_over : (a b : Here) (k : CodeToken) (f g : Prefix) → HandsOut a k b → EndsBefore a.rest f → GoesOver k f g true → EndsBefore b.rest g
ends_over a b k f g h e o = subst (λ (t : Text). EndsBefore t g) h.end_rest (o (λ n. omega (arith, cut_shorter h.cuts, ap length (sym h.start_rest ∙ n))) e.matched)

pub refused : {P : Type 0} (r : Bool) (a b : Here) (k : CodeToken) (t : TextControl) → HandsOut a k b → text_step t (kind_view k.kind) ≡ None → r ≡ false → Takes t a.rest ↔ P → (r ≡ true) ↔ P
refused r a b k t h e f x = (λ q. absurd cc, λ p. absurd (refuses h.cuts e (x.1 p)))

pub no_token_here : {P : Type 0} (r : Bool) (a : Here) (t : TextControl) → NoToken a.rest → r ≡ false → Takes t a.rest ↔ P → (r ≡ true) ↔ P
no_token_here r a t n f x = (λ q. absurd cc, λ p. absurd (none_begins n (x.1 p)))

pub at_the_text_end : {P : Type 0} (r : Bool) (a : Here) (t : TextControl) → a.rest ≡ [] → r ≡ text_finish t → Takes t a.rest ↔ P → (r ≡ true) ↔ P
at_the_text_end r a t n f x = let y = at_end n in (λ q. x.0 (y.0 (sym f ∙ q)), λ p. f ∙ y.1 (x.1 p))

-- where the text goes on there is nothing more to know
pub stopped_before : (rest : Text) (f g : Prefix) → EndsBefore rest f → (rest ≡ [] → ⊥) → g.place.rest ≡ f.place.rest → g.from.rest ≡ f.from.rest → IsStopped g
stopped_before rest f g e n p q = record { place = λ x. absurd (n (sym e.place ∙ sym p ∙ x)); from = λ x. absurd (n (e.from (sym q ∙ x)).0) }

pub stopped_at_end : (rest : Text) (f : Prefix) → EndsBefore rest f → text_finish (text_view f.control) ≡ false → IsStopped f
stopped_at_end rest f e n = record { place = λ x. (n, e.matched); from = λ x. ((e.from x).1 n, e.matched.1) }
