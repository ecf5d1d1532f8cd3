-- What lines represent under a prefix.
use Rattle.std.proofs.Common.{◌≡◌, ℕ, ◌+◌, ◌<◌, ◌≤◌, true, List, [], ◌∷◌, ◌++◌, length, take, get_or, refl, sym, ap, ◌∙◌, subst, arith, append_assoc, length-append, encode_utf8}
use Rattle.std.proofs.lemmas.Bool.{false≢true, true≢false}
use Rattle.std.proofs.lemmas.List.{append_cancel_left, nil_from_length, take_more}
use Rattle.std.proofs.lemmas.List.Sums.{sum_by-append}
use Rattle.std.proofs.lemmas.Str.{chars-nil}
use Rattle.std.specs.Prelude.{Option, Some, None, IfSome, IsSome, ◌↔◌, Result, Ok, Err, IsErrAnd, String}
use Rattle.std.specs.Global.{Global}
use Rattle.std.specs.Str.{chars, IsUtf8}
use Rattle.kdl_text.specs.Chars.{Text}
use Rattle.kdl_text.specs.Dedent.{LineUnit, Literal, Escape, LineEnd, is_blank_line, line_text, onto_first, lines_of, LineValue, blank, dedented, LineValues, none, more, joined, Dedents}
use Rattle.kdl_text.specs.Internal.Lines.{Dedented, IsLine, AreLines, no_lines, a_line, line_room, lines_room}
use Rattle.kdl_text.specs.declared.strings.StringFailure.{StringFailure}
use Rattle.kdl_text.specs.declared.strings.StringFailure.TheVariants.{Memory, Fault}
use Rattle.kdl_text.specs.declared.strings.dedent.Line.{Line}
use Rattle.kdl_text.proofs.ManyLines.LinesJoin.{ended, ended_more}
use Rattle.kdl_text.proofs.Quoted.EscapeReads.{char_pushed}

cut_some : (ts : List LineUnit) → (l : List LineUnit) × (ls : List (List LineUnit)) × (lines_of ts ≡ l ∷ ls)
cut_some [] = ([], [], refl)
cut_some (Literal c ∷ ts) = let (l, ls, e) = cut_some ts in (Literal c ∷ l, ls, ap (onto_first (Literal c)) e)
cut_some (Escape c ∷ ts) = let (l, ls, e) = cut_some ts in (Escape c ∷ l, ls, ap (onto_first (Escape c)) e)
cut_some (LineEnd ∷ ts) = ([], lines_of ts, refl)

snoc_same : {A : Type 0} → (xs ys : List A) (x y : A) → xs ++ (x ∷ []) ≡ ys ++ (y ∷ []) → (xs ≡ ys) × (x ≡ y)
snoc_same [] [] x y e = (refl, cc)
snoc_same [] (b ∷ []) x y e = absurd cc
snoc_same [] (b ∷ c ∷ ys) x y e = absurd cc
snoc_same (a ∷ []) [] x y e = absurd cc
snoc_same (a ∷ c ∷ xs) [] x y e = absurd cc
snoc_same (a ∷ xs) (b ∷ ys) x y e =
    let head : a ≡ b = cc in
    let tails : xs ++ (x ∷ []) ≡ ys ++ (y ∷ []) = cc in
    let (same, last) = snoc_same xs ys x y tails in
    (cc, last)

line_same : (p l : List LineUnit) (v w : Text) → LineValue p l v → LineValue p l w → v ≡ w
line_same p l v w (blank a e) (blank b f) = e ∙ sym f
line_same p l v w (blank a e) (dedented n b g h) = absurd (true≢false (sym a ∙ b))
line_same p l v w (dedented m a e f) (blank b g) = absurd (true≢false (sym b ∙ a))
line_same p l v w (dedented m a e f) (dedented n b g h) = f ∙ ap line_text (append_cancel_left p m n (sym e ∙ g)) ∙ sym h

pub values_same : (p : List LineUnit) (ls : List (List LineUnit)) (vs ws : List Text) → LineValues p ls vs → LineValues p ls ws → vs ≡ ws
values_same p [] [] [] none none = refl
values_same p [] [] (w ∷ ws) a b = elim b [ ]
values_same p [] (v ∷ vs) ws a b = elim a [ ]
values_same p (l ∷ ls) [] ws a b = elim a [ ]
values_same p (l ∷ ls) (v ∷ vs) [] a b = elim b [ ]
values_same p (l ∷ ls) (v ∷ vs) (w ∷ ws) (more a xs) (more b ys) =
    let here = line_same p l v w a b in
    let rest = values_same p ls vs ws xs ys in
    cc

-- lines represent one text at most
pub dedents_det : {us : List LineUnit} {v w : Text} → Dedents us v → Dedents us w → v ≡ w
dedents_det d e =
    let (same, last) = snoc_same d.lines e.lines d.prefix e.prefix (sym d.text ∙ e.text) in
    let values : LineValues e.prefix e.lines d.each = rw (← last, ← same) d.values in
    d.value ∙ ap joined (values_same e.prefix e.lines d.each e.each values e.values) ∙ sym e.value

-- the last line
pub lines_last : (ls : List Line) (l : Line) (uss : List (List LineUnit)) → AreLines (ls ++ (l ∷ [])) uss → (ks : List (List LineUnit)) × (us : List LineUnit) × (uss ≡ ks ++ (us ∷ [])) × AreLines ls ks × IsLine l us
lines_last [] l uss (a_line {us = us} i no_lines) = ([], us, refl, no_lines, i)
lines_last (k ∷ ls) l uss (a_line {us = us} {uss = rest} i is) = let (ks, us', e, are, last) = lines_last ls l rest is in (us ∷ ks, us', ap (λ z. us ∷ z) e, a_line i are, last)

values_more : (p : List LineUnit) (ls : List (List LineUnit)) (vs : List Text) (l : List LineUnit) (v : Text) → LineValues p ls vs → LineValue p l v → LineValues p (ls ++ (l ∷ [])) (vs ++ (v ∷ []))
values_more p [] vs l v none k = more k none
values_more p (x ∷ ls) vs l v (more {vs = ws} h hs) k = more h (values_more p ls ws l v hs k)

-- what has been written of lines, each with a line feed
abbrev pub Written : List LineUnit → List Line → Text → Type 0
Written p ls out = (uss : List (List LineUnit)) → AreLines ls uss → (vs : List Text) × LineValues p uss vs × (out ≡ ended 10 vs)

pub written_none : (p : List LineUnit) (out : Text) → out ≡ [] → Written p [] out
written_none p out e uss no_lines = ([], none, e)

-- a line more
pub written_more : (p : List LineUnit) (ls : List Line) (l : Line) (out mid new : Text) → Written p ls out → ((us : List LineUnit) → IsLine l us → (v : Text) × LineValue p us v × (mid ≡ out ++ v)) → new ≡ mid ++ (10 ∷ []) → Written p (ls ++ (l ∷ [])) new
written_more p ls l out mid new w value e uss are =
    let (ks, us, same, first, last) = lines_last ls l uss are in
    let (vs, values, is) = w ks first in
    let (v, one, put) = value us last in
    (vs ++ (v ∷ []), subst (λ z. LineValues p z (vs ++ (v ∷ []))) (sym same) (values_more p ks vs us v values one), e ∙ ap (λ z. z ++ (10 ∷ [])) (put ∙ ap (λ z. z ++ v) is) ∙ append_assoc (ended 10 vs) v (10 ∷ []) ∙ sym (ended_more 10 vs v))

joined_ended : (v : Text) (vs : List Text) → ended 10 (v ∷ vs) ≡ joined (v ∷ vs) ++ (10 ∷ [])
joined_ended v [] = refl
joined_ended v (w ∷ vs) = ap (λ z. v ++ (10 ∷ z)) (joined_ended w vs) ∙ sym (append_assoc v (10 ∷ joined (w ∷ vs)) (10 ∷ []))

nothing : (n : ℕ) → (0 < n → ⊥) → n ≡ 0
nothing n h = omega arith

-- without the last line feed
pub unended : (o : Option ℕ) (vs : List Text) (bs ns : List ℕ) → IsUtf8 bs → IsUtf8 ns → chars bs ≡ ended 10 vs → IsSome o ↔ (0 < length bs) → IfSome o (λ c. bs ≡ ns ++ encode_utf8 c) → length ns ≤ length bs → chars ns ≡ joined vs
unended None [] bs ns u v e some pop few = ap chars (nil_from_length ns (omega (arith, few, nothing (length bs) (λ h. false≢true (some.1 h))))) ∙ chars-nil
unended None (w ∷ vs) bs ns u v e some pop few =
    let empty : [] ≡ joined (w ∷ vs) ++ (10 ∷ []) = sym (ap chars (nil_from_length bs (nothing (length bs) (λ h. false≢true (some.1 h)))) ∙ chars-nil) ∙ e ∙ joined_ended w vs in
    absurd (omega (arith, ap length empty, length-append (joined (w ∷ vs)) (10 ∷ [])))
unended (Some c) [] bs ns u v e some pop few = absurd (omega (arith, ap length (sym (char_pushed ns bs c v u pop) ∙ e), length-append (chars ns) (c ∷ [])))
unended (Some c) (w ∷ vs) bs ns u v e some pop few = (snoc_same (chars ns) (joined (w ∷ vs)) c 10 (sym (char_pushed ns bs c v u pop) ∙ e ∙ joined_ended w vs)).0

-- a line without a value
pub value_of : (p : List LineUnit) (ls ks : List Line) (l : Line) (uss : List (List LineUnit)) (vs : List Text) → AreLines (ls ++ (l ∷ ks)) uss → LineValues p uss vs → (us : List LineUnit) × (v : Text) × IsLine l us × LineValue p us v
value_of p [] ks l uss vs (a_line {us = us} i is) (more {v = v} h hs) = (us, v, i, h)
value_of p (x ∷ ls) ks l uss vs (a_line {uss = rest} i is) (more {vs = ws} h hs) = value_of p ls ks l rest ws is hs

-- no units have no lines
pub some_lines : (us : List LineUnit) (ls : List Line) → AreLines ls (lines_of us) → ls ≡ [] → ⊥
some_lines us ls are e = let (l, ks, g) = cut_some us in no_line (subst (λ z. AreLines z (l ∷ ks)) e (subst (AreLines ls) g are))
  where
    no_line : {l : List LineUnit} {ks : List (List LineUnit)} → AreLines [] (l ∷ ks) → ⊥
    no_line a = elim a [ ]

-- the units whose lines these are, of which the last is spaces alone
pub dedents_to : (us : List LineUnit) (ks : List (List LineUnit)) (p : List LineUnit) (vs : List Text) → lines_of us ≡ ks ++ (p ∷ []) → is_blank_line p ≡ true → LineValues p ks vs → Dedents us (joined vs)
dedents_to us ks p vs e b k = record { lines = ks; prefix = p; text = e; is_blank = b; each = vs; values = k; value = refl }

pub dedents_from : (us : List LineUnit) (ks : List (List LineUnit)) (p : List LineUnit) (v : Text) → lines_of us ≡ ks ++ (p ∷ []) → Dedents us v → (is_blank_line p ≡ true) × (vs : List Text) × LineValues p ks vs × (v ≡ joined vs)
dedents_from us ks p v e d =
    let (same, ends) = snoc_same ks d.lines p d.prefix (sym e ∙ d.text) in
    (rw ends d.is_blank, d.each, rw (ends, same) d.values, d.value)

pub memory_if : (e : StringFailure) → ((e ≡ Memory → ⊥) → ⊥) → e ≡ Memory
memory_if Memory h = refl
memory_if (Fault f) h = absurd (h (λ q. cc))

-- where the memory ended
pub dedent_failed : (r : Result (String Global) StringFailure) (us : List LineUnit) → IsErrAnd r (λ e. e ≡ Memory) → Dedented us r
dedent_failed (Ok s) us h = absurd h
dedent_failed (Err e) us h = record { found = tt; only = λ v d. h }

-- room for one line more
pub room_more : (ls : List Line) (i : ℕ) (x : Line) → i < length ls → x ≡ get_or ls i x → lines_room (take (i + 1) ls) ≡ lines_room (take i ls) + line_room x
room_more ls i x h is =
    let next : take (i + 1) ls ≡ take i ls ++ (x ∷ []) = take_more ls i x h ∙ ap (λ z. take i ls ++ (z ∷ [])) (sym is) in
    omega (arith, ap lines_room next, sum_by-append line_room (take i ls) (x ∷ []))
