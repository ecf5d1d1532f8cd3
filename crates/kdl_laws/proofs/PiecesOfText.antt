-- Spans in a text cut it between characters.
use Rattle.std.specs.Prelude.{All}
use Rattle.kdl_laws.proofs.Common.{◌≡◌, ℕ, ◌+◌, List, [], ◌∷◌, ◌++◌, length, refl, ap, ◌∙◌, sym, subst, true, append_assoc, encodes-chars, Text, KdlDiagnostic, KdlError, SourceSpan}
use Rattle.std.proofs.Common.{length-append}
use Rattle.std.proofs.lemmas.Bool.{and_parts}
use Rattle.std.proofs.lemmas.Str.{IsCharBoundary-at_seam, encodes-append, scalars-chars, length-encode}
use Rattle.std.specs.Char.{len_utf8}
use Rattle.std.specs.Str.{IsCharBoundary, IsUtf8, chars}
use lib.Utf8.{encodes, encode, scalar, scalars}
use Rattle.std.proofs.lemmas.List.Elements.{All-weaker}
use Rattle.kdl_text.specs.Failures.{IsToldOf, Tells}
use Rattle.kdl_laws.specs.Pieces.{IsPiece}
use Rattle.kdl_text.specs.Spans.{InText, bytes}

length-encodes : (s : Text) → length (encodes s) ≡ bytes s
length-encodes [] = refl
length-encodes (c ∷ s) = length-append (encode c) (encodes s) ∙ ap (λ n. n + length (encodes s)) (length-encode c) ∙ ap (λ n. len_utf8 c + n) (length-encodes s)

scalars_after : (xs ys : List ℕ) → scalars (xs ++ ys) ≡ true → scalars ys ≡ true
scalars_after [] ys h = h
scalars_after (x ∷ xs) ys h = scalars_after xs ys (and_parts (scalar x) (scalars (xs ++ ys)) h).1

utf8_of : (cs : Text) → scalars cs ≡ true → IsUtf8 (encodes cs)
utf8_of cs h = (cs, (h, refl))

pub is_piece : (text : List ℕ) (span : SourceSpan) → IsUtf8 text → InText (chars text) span → IsPiece text span
is_piece text span u (before, piece, following, whole, offset, len) =
    let ok : scalars (before ++ piece ++ following) ≡ true = subst (λ (t : Text). scalars t ≡ true) whole (scalars-chars text u) in
    let last : scalars following ≡ true = scalars_after (before ++ piece) following ok in
    let ok' : scalars (before ++ (piece ++ following)) ≡ true = subst (λ (t : Text). scalars t ≡ true) (append_assoc before piece following) ok in
    let later : scalars (piece ++ following) ≡ true = scalars_after before (piece ++ following) ok' in
    let all : text ≡ encodes (before ++ piece ++ following) = sym (encodes-chars text u) ∙ ap encodes whole in
    let seam : text ≡ encodes (before ++ piece) ++ encodes following = all ∙ encodes-append (before ++ piece) following in
    let seam' : text ≡ encodes before ++ encodes (piece ++ following) = all ∙ ap encodes (append_assoc before piece following) ∙ encodes-append before (piece ++ following) in
    let long : length (encodes (before ++ piece)) ≡ span.offset + span.len =
    ap length (encodes-append before piece) ∙ length-append (encodes before) (encodes piece) ∙ ap (λ n. n + length (encodes piece)) (length-encodes before ∙ sym offset) ∙ ap (λ n. span.offset + n) (length-encodes piece ∙ sym len) in
    let short : length (encodes before) ≡ span.offset = length-encodes before ∙ sym offset in
    let e : IsCharBoundary text (span.offset + span.len) = subst (λ (n : ℕ). IsCharBoundary text n) long (IsCharBoundary-at_seam text (encodes (before ++ piece)) (encodes following) seam (utf8_of following last)) in
    record {
      within = e.0;
      begins = subst (λ (n : ℕ). IsCharBoundary text n) short (IsCharBoundary-at_seam text (encodes before) (encodes (piece ++ following)) seam' (utf8_of (piece ++ following) later));
      ends = e;
    }

-- so do those of the diagnostics of an error
all_pieces : (text : List ℕ) (ds : List KdlDiagnostic) → IsUtf8 text → All (IsToldOf text) ds → All (λ d. IsPiece text d.span) ds
all_pieces text ds u h = All-weaker (IsToldOf text) (λ d. IsPiece text d.span) (λ d t. is_piece text d.span u t.span) ds h

pub told_pieces : (text : List ℕ) (e : KdlError) → IsUtf8 text → Tells text e → All (λ d. IsPiece text d.span) e.diagnostics.items
told_pieces text e u t = all_pieces text e.diagnostics.items u t.each
