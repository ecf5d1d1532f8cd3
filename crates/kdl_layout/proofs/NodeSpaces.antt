-- Texts that are node-spaces, whatever follows them.
use Rattle.kdl_layout.proofs.Common.{◌≡◌, ◌<◌, true, [], ◌∷◌, ◌++◌, length, length-append, refl, arith, and_parts, list_all, Text, is_space, Star, more, Plus, plus, Space, Ws, NodeSpace, ValueEnd, AreNodeSpaces}
use Rattle.kdl_text.specs.Chars.{none}
use Rattle.kdl_entry.proofs.Moving.EntryMoves.{spaces_end as before_spaces}

shorter_then : {s r : Text} → Star NodeSpace s r → length r < length s → Plus NodeSpace s r
shorter_then none l = absurd (omega (arith, l))
shorter_then (more n ns) l = plus n ns

-- a text that is not empty has at least one
pub some_then : (t w : Text) → (t ≡ [] → ⊥) → Star NodeSpace (t ++ w) w → Plus NodeSpace (t ++ w) w
some_then [] w f ns = absurd (f refl)
some_then (c ∷ t) w f ns = shorter_then ns (omega (arith, length-append t w))

pub spaces_then : (t : Text) → AreNodeSpaces t → (t ≡ [] → ⊥) → (w : Text) → Plus NodeSpace (t ++ w) w
spaces_then t a f w = some_then t w f (a w)

pub empty_spaces : AreNodeSpaces []
empty_spaces w = none

-- where a value may end before the rest, it may end before the text
pub spaces_end : (t : Text) → AreNodeSpaces t → (r : Text) → ValueEnd true r → ValueEnd true (t ++ r)
spaces_end t a r v = before_spaces (a r) v

-- spaces alone
pub only_spaces_are : (t : Text) → list_all is_space t ≡ true → AreNodeSpaces t
only_spaces_are [] h w = none
only_spaces_are (c ∷ t) h w = let (a, b) = and_parts (is_space c) (list_all is_space t) h in more (NodeSpace.ws (Ws.space (Space.space a))) (only_spaces_are t b w)
