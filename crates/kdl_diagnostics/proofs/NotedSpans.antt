-- Spans between places of a text, and what a reader of faults notes.
use Rattle.std.proofs.Common.{◌≡◌, ◌-◌, List, [], ◌∷◌, ◌++◌, refl, ◌⊎◌, inl, inr, Option, sym, ap, subst, ◌∙◌, arith, append_assoc, append-nil}
use Rattle.std.specs.Option.{IfSome, option_to_list}
use Rattle.std.proofs.lemmas.List.Elements.{All-push, All-pop, All-same}
use Rattle.kdl_text.specs.Chars.{Text}
use Rattle.kdl_text.specs.Internal.Here.{Here, IsPart, Position, first_len}
use Rattle.kdl_text.specs.Internal.Reading.{Moves}
use Rattle.kdl_text.specs.Spans.{InText, span_between, bytes}
use Rattle.kdl_text.specs.declared.span.SourceSpan.{SourceSpan}
use Rattle.kdl_text.proofs.Looking.MovesJoin.{bytes-append}
use Rattle.kdl_diagnostics.specs.Internal.Noted.{Candidates, IsNotesOf, Keeps, Lexed, LexedFrom, Noted, Opened, ReadsIn, Takes}
use Rattle.kdl_diagnostics.specs.Internal.Reading.{LiesIn, Reads, Stands}
use Rattle.kdl_diagnostics.specs.declared.esclines.Candidate.{Candidate}
use Rattle.kdl_diagnostics.specs.declared.lexemes.Lexeme.{Lexeme}
use Rattle.kdl_diagnostics.specs.declared.notes.Fault.{Fault}
use Rattle.kdl_diagnostics.specs.declared.notes.Notes.{Notes}
use Rattle.kdl_diagnostics.specs.declared.reader.Reader.{Reader}
use Rattle.kdl_diagnostics.proofs.Passing.{after_then, if_lies, reads_here, reads_more}

-- of two ends of a text one is an end of the other
pub ends_of : (p a q b : Text) → p ++ a ≡ q ++ b → ((r : Text) × (a ≡ r ++ b)) ⊎ ((r : Text) × (b ≡ r ++ a))
ends_of [] a q b e = inl (q, e)
ends_of (c ∷ p) a [] b e = inr (c ∷ p, sym e)
ends_of (c ∷ p) a (d ∷ q) b e = ends_of p a q b cc

-- what is between two places of a text is a piece of it, and where the second is before the first, an empty one
between : (text a b : Text) → ((p : Text) × (text ≡ p ++ a)) → ((q : Text) × (text ≡ q ++ b)) → InText text (span_between text a b)
between text a b x y = go (ends_of x.0 a y.0 b (sym x.1 ∙ y.1))
  where
    go : ((r : Text) × (a ≡ r ++ b)) ⊎ ((r : Text) × (b ≡ r ++ a)) → InText text (span_between text a b)
    go (inl z) = (x.0, z.0, b, x.1 ∙ ap (λ (t : Text). x.0 ++ t) z.1 ∙ sym (append_assoc x.0 z.0 b), omega (arith, ap bytes x.1, bytes-append x.0 a), omega (arith, ap bytes z.1, bytes-append z.0 b))
    go (inr z) = (x.0, [], a, x.1 ∙ ap (λ (t : Text). t ++ a) (sym (append-nil x.0)), omega (arith, ap bytes x.1, bytes-append x.0 a), omega (arith, ap bytes z.1, bytes-append z.0 a))

-- the span that is taken of two places of the text, or of the character at the first
pub span_in : (text : Text) (n : Notes) (a b : Position) (s : SourceSpan) → IsNotesOf text n → LiesIn text a → LiesIn text b → s ≡ span_between n.whole.rest a.rest b.rest → InText text s
span_in text n a b s x u v e = subst (λ (z : SourceSpan). InText text z) (sym (e ∙ ap (λ (z : Text). span_between z a.rest b.rest) x.whole)) (between text a.rest b.rest u v)

pub char_in : (text : Text) (n : Notes) (a : Position) (s : SourceSpan) → IsNotesOf text n → LiesIn text a → s.offset ≡ bytes n.whole.rest - bytes a.rest → s.len ≡ first_len a.rest → InText text s
char_in text n a s x u e f = go a.rest refl
  where
    go : (r : Text) → a.rest ≡ r → InText text s
    go [] q = (u.0, [], [], u.1 ∙ ap (λ z. u.0 ++ z) q ∙ ap (λ (t : Text). t ++ []) (sym (append-nil u.0)), omega (arith, e, ap bytes x.whole, ap bytes u.1, bytes-append u.0 a.rest), f ∙ ap first_len q)
    go (c ∷ r) q = (u.0, c ∷ [], r, u.1 ∙ ap (λ z. u.0 ++ z) q ∙ sym (append_assoc u.0 (c ∷ []) r), omega (arith, e, ap bytes x.whole, ap bytes u.1, bytes-append u.0 a.rest), omega (arith, f, ap first_len q))

-- a cursor that goes on in the text
pub moved_here : {text : Text} {a b : Here} → ReadsIn text a → Moves a b → ReadsIn text b
moved_here {text = text} {a = a} {b = b} x m = record { piece = after_then text a.rest b.rest x.piece m.piece; same = m.same ∙ x.same }

-- a place in the text is a part of the text that the cursor was created over
pub lies_part : (text : Text) (whole rest : Text) → whole ≡ text → ((p : Text) × (text ≡ p ++ rest)) → IsPart whole rest
lies_part text whole rest e x = record { before = x.0; after = []; whole = e ∙ x.1 ∙ ap (λ (z : Text). x.0 ++ z) (sym (append-nil rest)) }

-- a lexeme of an end of the text
pub stands_in : (text rest : Text) (p : Lexeme) → ((q : Text) × (text ≡ q ++ rest)) → Stands rest p → Stands text p
stands_in text rest p x s = record {
  start = after_then text rest p.start.rest x s.start;
  end = after_then text rest p.end.rest x s.end;
  backslash = if_lies text rest p.backslash x s.backslash;
  comment = if_lies text rest p.comment x s.comment;
}

-- faults and blocks that are noted
pub noted_same : (text : Text) (old new : List Fault) → new ≡ old → Noted text old → Noted text new
noted_same text old new e x = All-same (λ (f : Fault). InText text f.span) new old e x

pub noted_more : (text : Text) (old new : List Fault) (f : Fault) → new ≡ old ++ (f ∷ []) → Noted text old → InText text f.span → Noted text new
noted_more text old new f e x y = All-same (λ (f : Fault). InText text f.span) new (old ++ (f ∷ [])) e (All-push (λ (f : Fault). InText text f.span) old f x y)

pub opened_more : (text : Text) (old new : List (Option SourceSpan)) (b : Option SourceSpan) → new ≡ old ++ (b ∷ []) → Opened text old → IfSome b (InText text) → Opened text new
opened_more text old new b e x y = All-same (λ (b : Option SourceSpan). IfSome b (InText text)) new (old ++ (b ∷ [])) e (All-push (λ (b : Option SourceSpan). IfSome b (InText text)) old b x y)

pub opened_less : (text : Text) (old new : List (Option SourceSpan)) (r : Option (Option SourceSpan)) → old ≡ new ++ option_to_list r → Opened text old → Opened text new × IfSome r (λ (b : Option SourceSpan). IfSome b (InText text))
opened_less text old new r e x = All-pop (λ (b : Option SourceSpan). IfSome b (InText text)) old new r e x

pub candidates_same : (text : Text) (old new : List Candidate) → new ≡ old → Candidates text old → Candidates text new
candidates_same text old new e x = All-same (λ (c : Candidate). InText text c.fault.span) new old e x

pub candidates_more : (text : Text) (old new : List Candidate) (c : Candidate) → new ≡ old ++ (c ∷ []) → Candidates text old → InText text c.fault.span → Candidates text new
candidates_more text old new c e x y = All-same (λ (c : Candidate). InText text c.fault.span) new (old ++ (c ∷ [])) e (All-push (λ (c : Candidate). InText text c.fault.span) old c x y)

-- notes that go on
pub keeps_same : (P : Text → Type 0) (n : Notes) → Keeps P n n
keeps_same P n = record { notes = λ text x p. x; grows = omega arith }

pub keeps_then : {P : Text → Type 0} {a b c : Notes} → Keeps P a b → Keeps P b c → Keeps P a c
keeps_then k l = record { notes = λ text x p. l.notes text (k.notes text x p) p; grows = omega (arith, k.grows, l.grows) }

pub keeps_if : {P Q : Text → Type 0} {a b : Notes} → ((text : Text) → Q text → P text) → Keeps P a b → Keeps Q a b
keeps_if f k = record { notes = λ text x q. k.notes text x (f text q); grows = k.grows }

-- a reader whose notes go on
pub takes_notes : {p : Lexeme} (old new : Reader) → Keeps (Lexed p) old.notes new.notes → new.cursor ≡ old.cursor → Takes p old new
takes_notes old new k e = record {
  keeps = λ text x s. (record { here = subst (ReadsIn text) (sym e) x.here; notes = k.notes text x.notes s });
  grows = k.grows;
  reads = subst (Reads 24 24 old.cursor) (sym e) (reads_more 24 (reads_here 24 old.cursor));
}

pub takes_on : {p : Lexeme} (old new : Reader) → Keeps (LexedFrom p old.cursor) old.notes new.notes → Reads 24 24 old.cursor new.cursor → Takes p old new
takes_on old new k r = record {
  keeps = λ text x s. (record { here = moved_here x.here r.moves; notes = k.notes text x.notes (s, x.here) });
  grows = k.grows;
  reads = r;
}

-- a reader that takes a lexeme after it noted it, or before
pub takes_after : {p : Lexeme} (a b c : Reader) → Keeps (Lexed p) a.notes b.notes → b.cursor ≡ a.cursor → Takes p b c → Takes p a c
takes_after a b c k e t = record {
  keeps = λ text x s. t.keeps text (record { here = subst (ReadsIn text) (sym e) x.here; notes = k.notes text x.notes s }) s;
  grows = omega (arith, k.grows, t.grows);
  reads = subst (λ h. Reads 24 24 h c.cursor) e t.reads;
}

pub takes_before : {p : Lexeme} (a b c : Reader) → Takes p a b → Keeps (LexedFrom p b.cursor) b.notes c.notes → c.cursor ≡ b.cursor → Takes p a c
takes_before a b c t k e = record {
  keeps = λ text x s. (let y = t.keeps text x s in record { here = subst (ReadsIn text) (sym e) y.here; notes = k.notes text y.notes (s, y.here) });
  grows = omega (arith, t.grows, k.grows);
  reads = subst (Reads 24 24 a.cursor) (sym e) t.reads;
}

-- a place that is another one
pub same_lies : (text : Text) (a b : Position) → a ≡ b → LiesIn text b → LiesIn text a
same_lies text a b e x = subst (λ (z : Position). LiesIn text z) (sym e) x
