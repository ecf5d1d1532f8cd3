-- Texts that are words of ASCII.
use Rattle.std.proofs.Common.{◌≡◌, ◌∙◌, ℕ, List, [], ◌∷◌, Bool, true, false, Option, Some, None, IsUtf8, ap, refl, sym}
use Rattle.std.proofs.lemmas.Str.{encodes-chars}
use Rattle.std.specs.Str.{chars}
use Rattle.std.proofs.Math.Utf8.{encodes}
use Rattle.std.specs.Cmp.Lexicographic.{other_text, same_text as is_same}
use Rattle.kdl_parts.specs.EntryLists.{same_text}
use Rattle.cli.specs.Config.{key_of, tab_of}
use Rattle.cli.specs.declared.config.Key.{Key}
use Rattle.cli.specs.declared.config.Key.TheVariants.{BlankLines, Expand, Indent, Respell}
use Rattle.cli.specs.declared.settings.Indent.TheVariants.{Tab}

-- texts of the same characters have the same bytes
one_text : (b w : List ℕ) → IsUtf8 b → IsUtf8 w → chars b ≡ chars w → b ≡ w
one_text b w u v e = sym (encodes-chars b u) ∙ ap encodes e ∙ encodes-chars w v

-- a word in ASCII
record IsWord (w : List ℕ) : Type 0 where
  utf8 : IsUtf8 w
  same : chars w ≡ w

-- a text that is not a word doesn't have its characters
differs : (b w : List ℕ) → IsUtf8 b → IsWord w → (b ≡ w → ⊥) → same_text (chars b) w ≡ false
differs b w u v n = tested (same_text (chars b) w) refl
  where
    tested : (t : Bool) → t ≡ same_text (chars b) w → same_text (chars b) w ≡ false
    tested true h = absurd (n (one_text b w u v.utf8 (is_same (chars b) w h ∙ sym v.same)))
    tested false h = sym h

-- the words that are names of settings
a_indent : IsWord (105 ∷ 110 ∷ 100 ∷ 101 ∷ 110 ∷ 116 ∷ [])
unfolding chars lib.Utf8.encode
a_indent = record { utf8 = (105 ∷ 110 ∷ 100 ∷ 101 ∷ 110 ∷ 116 ∷ [], (refl, refl)); same = refl }

a_lines : IsWord (98 ∷ 108 ∷ 97 ∷ 110 ∷ 107 ∷ 45 ∷ 108 ∷ 105 ∷ 110 ∷ 101 ∷ 115 ∷ [])
unfolding chars lib.Utf8.encode
a_lines = record { utf8 = (98 ∷ 108 ∷ 97 ∷ 110 ∷ 107 ∷ 45 ∷ 108 ∷ 105 ∷ 110 ∷ 101 ∷ 115 ∷ [], (refl, refl)); same = refl }

a_respell : IsWord (114 ∷ 101 ∷ 115 ∷ 112 ∷ 101 ∷ 108 ∷ 108 ∷ [])
unfolding chars lib.Utf8.encode
a_respell = record { utf8 = (114 ∷ 101 ∷ 115 ∷ 112 ∷ 101 ∷ 108 ∷ 108 ∷ [], (refl, refl)); same = refl }

an_expand : IsWord (101 ∷ 120 ∷ 112 ∷ 97 ∷ 110 ∷ 100 ∷ [])
unfolding chars lib.Utf8.encode
an_expand = record { utf8 = (101 ∷ 120 ∷ 112 ∷ 97 ∷ 110 ∷ 100 ∷ [], (refl, refl)); same = refl }

a_tab : IsWord (116 ∷ 97 ∷ 98 ∷ [])
unfolding chars lib.Utf8.encode
a_tab = record { utf8 = (116 ∷ 97 ∷ 98 ∷ [], (refl, refl)); same = refl }

-- the key of a name is that of its characters
key_spelled : (b w : List ℕ) (o : Option Key) → b ≡ w → IsWord w → key_of w ≡ o → o ≡ key_of (chars b)
key_spelled b w o is v e = sym (ap (λ (x : List ℕ). key_of (chars x)) is ∙ ap key_of v.same ∙ e)

pub indent_spelled : (b : List ℕ) → b ≡ 105 ∷ 110 ∷ 100 ∷ 101 ∷ 110 ∷ 116 ∷ [] → Some Indent ≡ key_of (chars b)
indent_spelled b is = key_spelled b _ (Some Indent) is a_indent refl

pub lines_spelled : (b : List ℕ) → b ≡ 98 ∷ 108 ∷ 97 ∷ 110 ∷ 107 ∷ 45 ∷ 108 ∷ 105 ∷ 110 ∷ 101 ∷ 115 ∷ [] → Some BlankLines ≡ key_of (chars b)
lines_spelled b is = key_spelled b _ (Some BlankLines) is a_lines refl

pub respell_spelled : (b : List ℕ) → b ≡ 114 ∷ 101 ∷ 115 ∷ 112 ∷ 101 ∷ 108 ∷ 108 ∷ [] → Some Respell ≡ key_of (chars b)
respell_spelled b is = key_spelled b _ (Some Respell) is a_respell refl

pub expand_spelled : (b : List ℕ) → b ≡ 101 ∷ 120 ∷ 112 ∷ 97 ∷ 110 ∷ 100 ∷ [] → Some Expand ≡ key_of (chars b)
expand_spelled b is = key_spelled b _ (Some Expand) is an_expand refl

pub none_spelled : (b : List ℕ) → IsUtf8 b → (b ≡ 105 ∷ 110 ∷ 100 ∷ 101 ∷ 110 ∷ 116 ∷ [] → ⊥) → (b ≡ 98 ∷ 108 ∷ 97 ∷ 110 ∷ 107 ∷ 45 ∷ 108 ∷ 105 ∷ 110 ∷ 101 ∷ 115 ∷ [] → ⊥)
    → (b ≡ 114 ∷ 101 ∷ 115 ∷ 112 ∷ 101 ∷ 108 ∷ 108 ∷ [] → ⊥) → (b ≡ 101 ∷ 120 ∷ 112 ∷ 97 ∷ 110 ∷ 100 ∷ [] → ⊥) → None ≡ key_of (chars b)
none_spelled b u i l r e = rw (differs b _ u a_indent i, differs b _ u a_lines l, differs b _ u a_respell r, differs b _ u an_expand e) refl

-- `tab` is the name of one indent
pub tab_spelled : (b : List ℕ) → true ≡ same_text b (116 ∷ 97 ∷ 98 ∷ []) → Some Tab ≡ tab_of (chars b)
tab_spelled b is = sym (ap (λ (x : List ℕ). tab_of (chars x)) (is_same b _ is) ∙ ap tab_of a_tab.same)

pub not_tab : (b : List ℕ) → IsUtf8 b → false ≡ same_text b (116 ∷ 97 ∷ 98 ∷ []) → None ≡ tab_of (chars b)
not_tab b u is = rw (differs b _ u a_tab (other_text b _ is)) refl
