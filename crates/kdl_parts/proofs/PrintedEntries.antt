-- What the entries of a node print, one by one.
use Rattle.kdl_parts.proofs.Common.{◌≡◌, ℕ, suc, ◌+◌, ◌<◌, List, [], ◌∷◌, ◌++◌, map, ap, ◌∙◌, sym, refl, arith, length, take, get_or, slice_get, Option, None, Some, option_map, is_some, append-nil, encodes-append, encode_utf8_all, Entry, entry_tree, entry_format_tree, KdlEntry, print_pieces}
use Rattle.std.proofs.Common.{◌-◌, append_assoc, not, is_none}
use Rattle.std.proofs.lemmas.List.{take_more, map-append}
use Rattle.kdl_grammar.specs.Print.{print_piece, last_has_format}

-- one text after another
pub print_pieces-append : (es fs : List Entry) → print_pieces (es ++ fs) ≡ print_pieces es ++ print_pieces fs
print_pieces-append [] fs = refl
print_pieces-append (e ∷ es) fs = ap (λ t. print_piece e ++ t) (print_pieces-append es fs) ∙ sym (append_assoc (print_piece e) (print_pieces es) (print_pieces fs))

-- one more entry
pub pieces_more : (es : List KdlEntry) (i : ℕ) (e : KdlEntry) → i < length es
    → print_pieces (map entry_tree (take (i + 1) es)) ≡ print_pieces (map entry_tree (take i es)) ++ print_piece (entry_tree (get_or es i e))
pieces_more es i e h =
    let x = get_or es i e in
    rw (take_more es i e h, map-append entry_tree (take i es) (x ∷ []), print_pieces-append (map entry_tree (take i es)) (entry_tree x ∷ []), append-nil (print_piece (entry_tree x))) refl

-- the last entry, as a look-up gives it
pub has_format : {A B : Type 0} (v : A → B) (o : Option A) (p : Option B) → option_map v o ≡ p → is_some o ≡ not (is_none p)
has_format v None p h = rw (← h) refl
has_format v (Some a) p h = rw (← h) refl

pub last_formatted : (es : List KdlEntry) (e : KdlEntry) → slice_get es (length es - 1) ≡ Some e → last_has_format (map entry_tree es) ≡ not (is_none (option_map entry_format_tree e.format))
last_formatted [] e h = absurd (cc)
last_formatted (d ∷ []) e h = let k : d ≡ e = cc in rw k refl
last_formatted (d ∷ x ∷ es) e h = let k : length (d ∷ x ∷ es) - 1 ≡ suc (length (x ∷ es) - 1) = omega arith in last_formatted (x ∷ es) e (rw k at h)

-- the same as bytes, for the turns of the loop
pub pieces_written : (es : List KdlEntry) (i : ℕ) (e : KdlEntry) → i < length es → e ≡ get_or es i e
    → encode_utf8_all (print_pieces (map entry_tree (take i es))) ++ encode_utf8_all (print_piece (entry_tree e)) ≡ encode_utf8_all (print_pieces (map entry_tree (take (i + 1) es)))
pieces_written es i e h k =
    rw (pieces_more es i e h, ← k) (sym (encodes-append (print_pieces (map entry_tree (take i es))) (print_piece (entry_tree e))))
