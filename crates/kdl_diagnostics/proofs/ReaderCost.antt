-- What a reader of faults costs, and where its cursor goes.
use Rattle.std.proofs.Common.{◌≡◌, ℕ, ◌+◌, ◌*◌, ◌<◌, ◌≤◌, List, [], ◌∷◌, length, refl, sym, ap, subst, ◌∙◌, arith}
use Rattle.std.specs.Str.{chars, IsUtf8}
use Rattle.kdl_text.specs.Chars.{Text}
use Rattle.kdl_text.specs.Internal.Here.{Here}
use Rattle.kdl_text.specs.Spans.{bytes}
use Rattle.kdl_text.proofs.Looking.MovesJoin.{bytes-append, fewer_bytes, moves_then}
use Rattle.kdl_text.proofs.Looking.Texts.{bytes-chars}
use Rattle.kdl_diagnostics.specs.Internal.Noted.{Always, Counted, Goes, IsReaderOf, Keeps, ReadsIn, Takes}
use Rattle.kdl_diagnostics.specs.Internal.Reading.{LiesIn, Reads, Stands}
use Rattle.kdl_diagnostics.specs.declared.lexemes.Lexeme.{Lexeme}
use Rattle.kdl_diagnostics.specs.declared.reader.Reader.{Reader}
use Rattle.kdl_diagnostics.proofs.NotedSpans.{moved_here, stands_in}
use Rattle.kdl_diagnostics.proofs.Passing.{reads_here, reads_more}

-- a reader that goes on to the next lexeme, notes that, or a character further back
next_counted : (a b : Here) → Reads 37 41 a b → Counted (124 * bytes a.rest + 99) a.steps b.steps
next_counted a b r = record { most = omega (arith, r.most, fewer_bytes r.moves); counts = r.moves.counts }

pub goes_next : (a b : Reader) → b.notes ≡ a.notes → Reads 37 41 a.cursor b.cursor → Goes Always (124 * bytes a.cursor.rest + 100) a b
goes_next a b e r =
    let k = next_counted a.cursor b.cursor r in
    record {
      keeps = λ text x p. (record { here = moved_here x.here r.moves; notes = rw e x.notes });
      grows = omega (arith, ap (λ n. length n.faults.items) e);
      counted = record { most = omega (arith, k.most); counts = k.counts };
    }

pub goes_noted : {P : Text → Type 0} (a b : Reader) → Reads 37 41 a.cursor b.cursor → ((text : Text) → LiesIn text (record { rest = a.cursor.rest; at = a.cursor.at }) → P text) → Keeps P a.notes b.notes → Goes Always (124 * bytes a.cursor.rest + 100) a b
goes_noted a b r f k =
    let n = next_counted a.cursor b.cursor r in
    record {
      keeps = λ text x q. (record { here = moved_here x.here r.moves; notes = k.notes text x.notes (f text x.here.piece) });
      grows = k.grows;
      counted = record { most = omega (arith, n.most); counts = n.counts };
    }

-- the reader notes what is missing here
pub goes_here : {P : Text → Type 0} (a b : Reader) → b.cursor ≡ a.cursor → ((text : Text) → IsReaderOf text a → P text) → Keeps P a.notes b.notes → Goes Always 0 a b
goes_here a b e f k = record {
  keeps = λ text x q. (record { here = subst (ReadsIn text) (sym e) x.here; notes = k.notes text x.notes (f text x) });
  grows = k.grows;
  counted = record { most = omega (arith, ap (λ (z : Here). z.steps) e); counts = omega (arith, ap (λ (z : Here). z.steps) e) };
}

-- a fault that was noted, or is noted then
pub had : {A : Type 0} (xs ys : List A) → (length xs ≡ 0 → 0 < length ys) → length xs ≤ length ys → 0 < length ys
had [] ys f l = f refl
had (x ∷ xs) ys f l = omega (arith, l)

-- a turn over a lexeme
pub taken : (a b c : Reader) (p : Lexeme) (text : Text) → IsReaderOf text a → b.notes ≡ a.notes → Reads 37 41 a.cursor b.cursor → Stands a.cursor.rest p → Takes p b c → IsReaderOf text c
taken a b c p text x e r s t = t.keeps text (record { here = moved_here x.here r.moves; notes = rw e x.notes }) (stands_in text a.cursor.rest p x.here.piece s)

pub turn_reads : {f a b e : Here} → Reads 124 0 f a → Reads 37 41 a b → bytes b.rest < bytes a.rest → Reads 24 24 b e → Reads 124 0 f e
turn_reads i r few t = record { moves = moves_then i.moves (moves_then r.moves t.moves); most = omega (arith, i.most, r.most, few, t.most, fewer_bytes t.moves) }

pub turn_ends : {f a b e : Here} → Reads 124 0 f a → Reads 37 41 a b → Reads 24 24 b e → Counted (124 * bytes f.rest + 100) f.steps e.steps
turn_ends i r t = record {
  most = omega (arith, i.most, r.most, t.most, fewer_bytes i.moves, fewer_bytes r.moves, fewer_bytes t.moves);
  counts = omega (arith, i.moves.counts, r.moves.counts, t.moves.counts);
}

-- a reader that reaches the end of the text
pub goes_ended : {f a b c : Reader} → ((text : Text) → IsReaderOf text f → IsReaderOf text a) → length f.notes.faults.items ≤ length a.notes.faults.items → Reads 124 0 f.cursor a.cursor → b.notes ≡ a.notes → Reads 37 41 a.cursor b.cursor → Goes Always 0 b c → Goes Always (124 * bytes f.cursor.rest + 100) f c
goes_ended i l r e n g =
    let k = turn_ends r n (reads_more 24 (reads_here 24 _)) in
    record {
      keeps = λ text x p. g.keeps text (let y = i text x in record { here = moved_here y.here n.moves; notes = rw e y.notes }) p;
      grows = omega (arith, l, ap (λ z. length z.faults.items) e, g.grows);
      counted = record { most = omega (arith, k.most, g.counted.most); counts = omega (arith, k.counts, g.counted.counts) };
    }

pub goes_same : (n : ℕ) (a : Reader) → Goes Always n a a
goes_same n a = record { keeps = λ text x p. x; grows = omega arith; counted = record { most = omega arith; counts = omega arith } }

-- the text of a reader, read again from its start
pub read_again : (a c : Reader) {here : Here} → here ≡ record a.cursor { rest = a.notes.whole.rest; at = a.notes.whole.at } → Reads 4 1 here c.cursor → Keeps Always a.notes c.notes → Goes Always (4 * (bytes a.notes.whole.rest + 1)) a c
read_again a c e r k = record {
  keeps = λ text x p. (record {
    here = record {
      piece = (r.moves.piece.0, sym x.notes.whole ∙ sym (ap (λ (z : Here). z.rest) e) ∙ r.moves.piece.1);
      same = r.moves.same ∙ ap (λ (z : Here). z.text) e ∙ x.here.same;
    };
    notes = k.notes text x.notes p;
  });
  grows = k.grows;
  counted = record {
    most = omega (arith, ap (λ (z : Here). z.steps) e, ap (λ (z : Here). bytes z.rest) e, r.most);
    counts = omega (arith, ap (λ (z : Here). z.steps) e, r.moves.counts);
  };
}

-- a text that is read, and then read again
bytes_in : {text : Text} {here : Here} → ReadsIn text here → bytes here.rest ≤ bytes text
bytes_in {here = here} x = omega (arith, ap bytes x.piece.1, bytes-append x.piece.0 here.rest)

pub read_once : (text : Text) (a b : Reader) → IsReaderOf text a → Goes Always (124 * bytes a.cursor.rest + 100) a b → Goes Always (128 * bytes text + 104) a b
read_once text a b x g = record { keeps = g.keeps; grows = g.grows; counted = record { most = omega (arith, bytes_in x.here, g.counted.most); counts = g.counted.counts } }

pub read_twice : (text : Text) (a b c : Reader) → IsReaderOf text a → Goes Always (124 * bytes a.cursor.rest + 100) a b → Goes Always (4 * (bytes b.notes.whole.rest + 1)) b c → Goes Always (128 * bytes text + 104) a c
read_twice text a b c x g h = record {
  keeps = λ t y p. h.keeps t (g.keeps t y p) p;
  grows = omega (arith, g.grows, h.grows);
  counted = record {
    most = omega (arith, bytes_in x.here, ap bytes (g.keeps text x tt).notes.whole, g.counted.most, h.counted.most);
    counts = omega (arith, g.counted.counts, h.counted.counts);
  };
}

-- the steps over a whole text
pub steps_bounded : (text : List ℕ) (a b before after : ℕ) → IsUtf8 text → Counted (128 * bytes (chars text) + 104) a b → Counted 7 before a → after ≡ b → Counted (128 * length text + 111) before after
steps_bounded text a b before after u x y e = record { most = omega (arith, x.most, y.most, bytes-chars text u, e); counts = omega (arith, x.counts, y.counts, e) }
