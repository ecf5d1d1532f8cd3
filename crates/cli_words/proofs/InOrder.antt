-- Texts that are in order in a text.
use Rattle.std.proofs.Common.{◌∙◌, ◌++◌, ◌∷◌, [], Contains, List, ap, append-nil, append_assoc, arith, flat_map, map, subst, suc, sym, zero, ℕ}
use Rattle.cli_words.specs.Template.{HasOfEach, InOrder, IsOnWords, escaped, flag_part, flag_parts, word_part, word_parts, written}
use Rattle.cli_words.specs.declared.template.FlagPart.TheVariants as flag
use Rattle.cli_words.specs.declared.template.WordPart.TheVariants as word
use Rattle.cli_words.specs.declared.words.Word.{Word}

-- after another text
after : (ps : List (List ℕ)) (s t : List ℕ) → InOrder ps t → InOrder ps (s ++ t)
after [] s t is = tt
after (p ∷ ps) s t (a, b, e, is) = (s ++ a, b, ap (λ z. s ++ z) e ∙ sym (append_assoc s (a ++ p) b) ∙ ap (λ z. z ++ b) (sym (append_assoc s a p)), is)

-- in two texts, one after the other
joined : (ps qs : List (List ℕ)) (s t : List ℕ) → InOrder ps s → InOrder qs t → InOrder (ps ++ qs) (s ++ t)
joined [] qs s t is js = after qs s t js
joined (p ∷ ps) qs s t (a, b, e, is) js = (a, b ++ t, ap (λ z. z ++ t) e ∙ append_assoc (a ++ p) b t, joined ps qs b t is js)

-- before another text
before : (ps : List (List ℕ)) (s t : List ℕ) → InOrder ps s → InOrder ps (s ++ t)
before ps s t is = subst (λ qs. InOrder qs (s ++ t)) (append-nil ps) (joined ps [] s t is tt)

-- in the texts of the elements of a list
each : {X : Type 0} (f : X → List (List ℕ)) (g : X → List ℕ) → ((x : X) → InOrder (f x) (g x)) → (xs : List X) → InOrder (flat_map f xs) (flat_map g xs)
each f g is [] = tt
each f g is (x ∷ xs) = joined (f x) (flat_map f xs) (g x) (flat_map g xs) (is x) (each f g is xs)

-- in the text of one element
within : {X : Type 0} (ps : List (List ℕ)) (g : X → List ℕ) (x : X) → InOrder ps (g x) → (xs : List X) → Contains xs x → InOrder ps (flat_map g xs)
within ps g x is [] (k, l, e) = absurd (omega (arith, l))
within ps g x is (y ∷ ys) (zero, l, e) = before ps (g y) (flat_map g ys) (subst (λ z. InOrder ps (g z)) (sym e) is)
within ps g x is (y ∷ ys) (suc k, l, e) = after ps (g y) (flat_map g ys) (within ps g x is ys (k, omega (arith, l), e))

single : (p : List ℕ) → InOrder (p ∷ []) p
single p = ([], [], sym (append-nil p), tt)

each_one : {X : Type 0} (f : List ℕ → List ℕ) (h : X → List ℕ) (g : X → List ℕ) → ((x : X) → InOrder (f (h x) ∷ []) (g x)) → (xs : List X) → InOrder (map f (map h xs)) (flat_map g xs)
each_one f h g is [] = tt
each_one f h g is (x ∷ xs) = joined (f (h x) ∷ []) (map f (map h xs)) (g x) (flat_map g xs) (is x) (each_one f h g is xs)

pub has_names : (title text : List ℕ) → IsOnWords title text → HasOfEach (λ w. w.name.now ∷ []) text
unfolding written word_parts
has_names title text (t, ws, (begins, leaves, names), are, e) =
    let es = t.escapes.now in
    let all = each (λ (w : Word). escaped es w.name.now ∷ []) (word_parts es t.list.now) (λ w. within (escaped es w.name.now ∷ []) (word_part es w) word.Name (single (escaped es w.name.now)) t.list.now names.0) ws in
    (es, ws, leaves, are, subst (InOrder _) (sym e) (before _ _ _ (before _ _ _ (before _ _ _ (after _ _ _ all)))))

pub has_flags : (title text : List ℕ) → IsOnWords title text → HasOfEach (λ w. map (λ f. f.long.now) w.flags.now) text
unfolding written word_parts flag_parts
has_flags title text (t, ws, (begins, leaves, names), are, e) =
    let es = t.escapes.now in
    let (parts, flags, long) = names.2 in
    let all = each (λ (w : Word). map (escaped es) (map (λ f. f.long.now) w.flags.now)) (word_parts es t.section.now)
    (λ w. within (map (escaped es) (map (λ f. f.long.now) w.flags.now)) (word_part es w) (word.Flags parts) (each_one (escaped es) (λ f. f.long.now) (flag_parts es parts.now w) (λ f. within (escaped es f.long.now ∷ []) (flag_part es w f) flag.Long (single (escaped es f.long.now)) parts.now long) w.flags.now) t.section.now flags) ws in
    (es, ws, leaves, are, subst (InOrder _) (sym e) (before _ _ _ (after _ _ _ all)))
