-- A value is set in its own place: an exchange of an equal value elsewhere, or of its bytes in a comment, is not one at the PATH.
use Rattle.std.proofs.Common.{◌≡◌, ℕ, Bool, true, false, ◌==◌, List, [], ◌∷◌, ◌++◌, map, None, Some, unwrap_or, codes, pos, refl, ap, ◌∙◌, sym, subst, arith, lit<, if◌then◌else◌}
use Rattle.std.specs.Fmt.{digits}
use Rattle.std.specs.Str.Parse.{digits_value}
use Rattle.kdl_text.specs.Bare.{is_bare}
use Rattle.kdl_text.specs.Chars.{Newline, Text, is_banned, is_identifier_char, is_newline_char, is_punctuation, is_sign, is_space}
use Rattle.kdl_text.specs.Numbers.{base_prefix, fits, is_digit_of}
use Rattle.kdl_text.specs.Trivia.{Break, Line, LineComment}
use Rattle.kdl_value.specs.Data.{Value, integer}
use Rattle.kdl_value.specs.Print.{print_value}
use Rattle.kdl_syntax.specs.Tokens.{newline, t_newline}
use Rattle.kdl_entry.specs.Data.{Entry}
use Rattle.kdl_entry.specs.Tree.{plain_entry}
use Rattle.kdl_grammar.specs.Data.{Nodes, first, no_children, node, none}
use Rattle.kdl_grammar.specs.Grammar.{IsDocument}
use Rattle.kdl_grammar.proofs.Examples.Tokens.{Cut, blank, derived, digit, end, letter, line_feed, next}
use Rattle.kdl_grammar.proofs.Reading.Erased.{one_document}
use Rattle.kdl_grammar.proofs.ReadingBack.Entries.{formless_reads}
use Rattle.c_calls.specs.Entries.{IsValueText}
use Rattle.kdl_parts.specs.EntryLists.{nth_place}
use Rattle.kdl.specs.Said.{is_called, said_nodes}
use Rattle.kdl_path.specs.Edits.{IsExchangedAt, IsSetAt, changed_at, node_with_value, with_nth, with_there, with_value}
use Rattle.kdl_path.specs.Paths.{step_place}
use Rattle.kdl_path.specs.PathText.{PathData, StepData, argument, path_says, step_says, target_says}
use Rattle.kdl_path.specs.declared.path.Path.{Path}
use Rattle.kdl_path.specs.declared.path.Step.{Step}
use Rattle.kdl_path.specs.declared.path.Target.{Target}
use Rattle.kdl_path.specs.declared.path.Target.TheVariants.{Node, Argument, Property}
use Rattle.kdl_path.proofs.Values.{value_is_read}

abbrev one : Value
one = integer (pos 1)

abbrev two : Value
two = integer (pos 2)

-- a node `a` with arguments
abbrev arg : Value → Entry
arg v = record { key = None; ty = None; value = v }

abbrev alone : List Entry → Nodes
alone es = first (node None (codes "a") es no_children) none

abbrev number : Value → ℕ
number (integer (pos n)) = n
number _ = 0

abbrev first_number : Nodes → ℕ
first_number (first (node ty name (e ∷ es) k) x) = number e.value
first_number _ = 0

-- texts of it: `a 1 C` and a newline, and `a 1 // C` and a newline, for a digit C
digits_are_two : (c : ℕ) → is_sign c ≡ false → base_prefix (c ∷ 10 ∷ []) ≡ None → is_digit_of 10 c ≡ true → fits false (digits_value 10 (c ∷ [])) ≡ true
    → IsDocument (codes "a 1 " ++ c ∷ 10 ∷ []) (alone (arg one ∷ arg (integer (pos (digits_value 10 (c ∷ [])))) ∷ []))
unfolding is_bare is_identifier_char is_space is_newline_char is_banned is_punctuation is_digit_of
digits_are_two c a b d e = derived (letter 97 refl refl (blank (digit 49 refl refl refl refl refl refl (blank (digit c a b d refl refl e (line_feed end)))))) _ refl

remark : (c : ℕ) → is_newline_char c ≡ false → Cut (47 ∷ 47 ∷ 32 ∷ c ∷ 10 ∷ []) ((newline, []) ∷ [])
unfolding is_newline_char
remark c h = next (t_newline (Break.comment (LineComment.line (Line.other refl (Line.other h (Line.newline (Newline.one refl refl))))))) end

one_is_alone : (c : ℕ) → is_newline_char c ≡ false → IsDocument (codes "a 1 // " ++ c ∷ 10 ∷ []) (alone (arg one ∷ []))
unfolding is_bare is_identifier_char is_space is_newline_char is_banned is_punctuation is_digit_of
one_is_alone c h = derived (letter 97 refl refl (blank (digit 49 refl refl refl refl refl refl (blank (remark c h))))) (alone (arg one ∷ [])) refl

prints_two : print_value two ≡ codes "2"
unfolding digits
prints_two = refl

two_read : IsValueText (codes "2") two
two_read = subst (λ (t : Text). IsValueText t two) prints_two (value_is_read (plain_entry None two) (formless_reads (plain_entry None two) (record { plain = refl; key = tt; ty = tt; value = record { sfits = lit< tt } })))

-- the place of `0x1` after a text without `0`, before the end of its line
heads : (c d : ℕ) (s t : Text) → c ∷ s ≡ d ∷ t → c ≡ d
heads c d s t h = cc

tails : (c d : ℕ) (s t : Text) → c ∷ s ≡ d ∷ t → s ≡ t
tails c d s t h = cc

nothing : (b a : Text) → [] ≡ b ++ codes "0x1" ++ a → ⊥
nothing [] a h = absurd (cc)
nothing (c ∷ b) a h = absurd (cc)

abbrev has_no_zero : Text → Bool
has_no_zero [] = true
has_no_zero (c ∷ s) = if c == 48 then false else has_no_zero s

rest_has_none : (c : ℕ) (s : Text) → has_no_zero (c ∷ s) ≡ true → has_no_zero s ≡ true
rest_has_none c s h = go (c == 48) h
  where
    go : (b : Bool) → (if b then false else has_no_zero s) ≡ true → has_no_zero s ≡ true
    go true h = absurd (cc)
    go false h = h

record IsThere (front before after : Text) : Type 0 where
  pub before_it : before ≡ front
  pub after_it : after ≡ codes "\n"

there : (f b a : Text) → has_no_zero f ≡ true → f ++ codes "0x1\n" ≡ b ++ codes "0x1" ++ a → IsThere f b a
there [] [] a n h = record { before_it = refl; after_it = sym (tails _ _ _ _ (tails _ _ _ _ (tails _ _ _ _ h))) }
there [] (c ∷ []) a n h = absurd (omega (arith, heads 120 48 _ _ (tails _ _ _ _ h)))
there [] (c ∷ d ∷ []) a n h = absurd (omega (arith, heads 49 48 _ _ (tails _ _ _ _ (tails _ _ _ _ h))))
there [] (c ∷ d ∷ e ∷ []) a n h = absurd (omega (arith, heads 10 48 _ _ (tails _ _ _ _ (tails _ _ _ _ (tails _ _ _ _ h)))))
there [] (c ∷ d ∷ e ∷ f ∷ b) a n h = absurd (nothing b a (tails _ _ _ _ (tails _ _ _ _ (tails _ _ _ _ (tails _ _ _ _ h)))))
there (c ∷ f) [] a n h = absurd (let k = subst (λ d. has_no_zero (d ∷ f) ≡ true) (heads c 48 _ _ h) n in cc)
there (c ∷ f) (d ∷ b) a n h =
    let rest = there f b a (rest_has_none c f n) (tails c d _ _ h) in
    record { before_it = ap (λ e. e ∷ b) (sym (heads c d _ _ h)) ∙ ap (λ l. c ∷ l) rest.before_it; after_it = rest.after_it }

-- the PATH `a#0`
abbrev a_step : StepData
a_step = record { name = codes "a"; index = None }

first_set : (p : Path) → path_says p ≡ record { steps = a_step ∷ []; target = argument 0 } → (es : List Entry) (v : Value) → with_value p v (alone (arg one ∷ es)) ≡ alone (arg v ∷ es)
first_set p h es v = go p.steps.items p.target (ap (λ (q : PathData). q.steps) h) (ap (λ (q : PathData). q.target) h)
  where
    at : (s : Step) (i : ℕ) → step_says s ≡ a_step → i ≡ 0 → changed_at (s ∷ []) (node_with_value (Argument i) v) (alone (arg one ∷ es)) ≡ alone (arg v ∷ es)
    at s i e z =
        let x = alone (arg one ∷ es) in
        let named : step_place s (said_nodes x) ≡ Some 0 = ap (λ (y : StepData). nth_place (is_called y.name) (said_nodes x) (unwrap_or y.index 0)) e in
        ap (λ o. with_there o (node_with_value (Argument i) v) x) named ∙ ap (λ j. with_nth 0 (node_with_value (Argument j) v) x) z

    go : (ss : List Step) (t : Target) → map step_says ss ≡ a_step ∷ [] → target_says t ≡ argument 0 → changed_at ss (node_with_value t v) (alone (arg one ∷ es)) ≡ alone (arg v ∷ es)
    go [] t h k = absurd (cc)
    go (s ∷ []) Node h k = absurd (cc)
    go (s ∷ []) (Argument i) h k = at s i (cc) (cc)
    go (s ∷ []) (Property n) h k = absurd (cc)
    go (s ∷ u ∷ ss) t h k = absurd (cc)

-- where a text before the place has no `0`, that place is the one of `0x1`: with `2` there, argument 0 is 2
two_there : (front : Text) → has_no_zero front ≡ true → (p : Path) → path_says p ≡ record { steps = a_step ∷ []; target = argument 0 } → (es : List Entry) (was text : Text)
    → IsExchangedAt (λ v. with_value p v (alone (arg one ∷ es))) was (codes "0x1") text (front ++ codes "0x1\n") → IsDocument (front ++ codes "2" ++ codes "\n") (alone (arg two ∷ es))
two_there front n p is es was text x =
    let place = there front x.before x.after n x.new in
    subst (λ (y : Nodes). IsDocument (front ++ codes "2" ++ codes "\n") y) (first_set p is es two)
    (subst (λ (t : Text). IsDocument (front ++ codes "2" ++ t) (with_value p two (alone (arg one ∷ es)))) place.after_it
    (subst (λ (t : Text). IsDocument (t ++ codes "2" ++ x.after) (with_value p two (alone (arg one ∷ es)))) place.before_it (x.place (codes "2") two two_read)))

-- for `a 1 1`, the text `a 1 0x1` is not one in which argument 0 is set to `0x1`
pub equal_bytes_elsewhere_are_not_set : (p : Path) → path_says p ≡ record { steps = a_step ∷ []; target = argument 0 } → IsSetAt p (codes "0x1") (codes "a 1 1\n") (codes "a 1 0x1\n") → ⊥
unfolding is_digit_of
equal_bytes_elsewhere_are_not_set p is h =
    let out = two_there (codes "a 1 ") refl p is _ _ _ (h.bytes _ (digits_are_two 49 refl refl refl refl)) in
    absurd (omega (arith, ap first_number (one_document _ _ _ out (digits_are_two 50 refl refl refl refl))))

-- for `a 1 // 1`, the text `a 1 // 0x1` is none either
pub bytes_in_a_comment_are_not_set : (p : Path) → path_says p ≡ record { steps = a_step ∷ []; target = argument 0 } → IsSetAt p (codes "0x1") (codes "a 1 // 1\n") (codes "a 1 // 0x1\n") → ⊥
unfolding is_newline_char
bytes_in_a_comment_are_not_set p is h =
    let out = two_there (codes "a 1 // ") refl p is _ _ _ (h.bytes _ (one_is_alone 49 refl)) in
    absurd (omega (arith, ap first_number (one_document _ _ _ out (one_is_alone 50 refl))))
