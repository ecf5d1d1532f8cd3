-- Texts that are node-spaces, and texts that are none.
use Rattle.kdl_layout.proofs.Common.{◌≡◌, true, [], ◌∷◌, refl, ap, Text, starts, crlf, more, Plus, plus, Space, Parts, block, Ws, EscEnd, escline, NodeSpace, node_space_det, space_ends, value_end_no_identifier, AreNodeSpaces, is_space, is_newline_char, is_banned, is_punctuation, is_identifier_char}
use Rattle.kdl_text.specs.Chars.{none}
use Rattle.kdl_layout.proofs.Lacking.SpaceEnds.{goes_past}
use Rattle.kdl_layout.proofs.Rewriting.BeforeNewlines.{a_newline}
use Rattle.kdl_layout.proofs.NodeSpaces.{only_spaces_are, spaces_then}

-- ` `
a_space : AreNodeSpaces (32 ∷ [])
unfolding is_space
a_space = only_spaces_are (32 ∷ []) refl

-- ` /* a */`
space_comment : AreNodeSpaces (32 ∷ 47 ∷ 42 ∷ 32 ∷ 97 ∷ 32 ∷ 42 ∷ 47 ∷ [])
unfolding is_space
space_comment w = more (NodeSpace.ws (Ws.space (Space.space refl))) (more (NodeSpace.ws (Ws.comment (block (Parts.other refl refl (Parts.other refl refl (Parts.other refl refl Parts.close)))))) none)

-- `\`, and an LF
ended_escline : AreNodeSpaces (92 ∷ 10 ∷ [])
ended_escline w = more (NodeSpace.escline (escline none (EscEnd.newline (a_newline w)))) none

-- `\` alone: an LF after it is part of the escline
no_escline : AreNodeSpaces (92 ∷ []) → ⊥
no_escline = goes_past (92 ∷ []) (10 ∷ []) (λ e. cc) (λ e. cc) (λ u n. node_space_det n (NodeSpace.escline (escline none (EscEnd.newline (a_newline [])))))

-- and after `\` and a CR too
no_return : AreNodeSpaces (92 ∷ 13 ∷ []) → ⊥
no_return = goes_past (92 ∷ 13 ∷ []) (10 ∷ []) (λ e. cc) (λ e. cc) (λ u n. node_space_det n (NodeSpace.escline (escline none (EscEnd.newline crlf))))

a_letter : is_identifier_char 97 ≡ true
unfolding is_identifier_char is_space is_newline_char is_banned is_punctuation
a_letter = refl

-- `a`
no_letter : AreNodeSpaces (97 ∷ []) → ⊥
no_letter a = go (spaces_then (97 ∷ []) a (λ e. cc) []) refl
  where
    go : {s : Text} → Plus NodeSpace s [] → s ≡ 97 ∷ [] → ⊥
    go {s = s} (plus n ns) e = let x = value_end_no_identifier {wide = true} {s = s} (space_ends n) in let y = ap (starts is_identifier_char) e in let z = a_letter in cc
