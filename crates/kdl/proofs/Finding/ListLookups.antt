-- What passes a test in a list, and in one in which some elements took the place of others.
use Rattle.kdl.proofs.Common.{not, position, ◌≡◌, ℕ, zero, suc, ◌+◌, ◌<◌, ◌≤◌, Bool, true, false, List, [], ◌∷◌, ◌++◌, length, take, drop, set, slice_get, Option, None, Some, option_map, refl, ap, ◌∙◌, sym, subst, arith, cond, add-one, nat_tests, length-append, none-some, slice_get_within, filter, find, last_or, put_before, put_for, without, last_place, nth_place, there}
use Rattle.std.proofs.Common.{nat_lt, append-nil}
use Rattle.std.proofs.lemmas.List.{set_split, take-append-drop}
use Rattle.std.proofs.lemmas.List.Elements.{filter-append}
use Rattle.std.specs.List.{position_or_len}
use Rattle.kdl_parts.specs.EntryLists.{later, nth_step}

-- a list around one of its elements
pub around_itself : {A : Type 0} (xs : List A) (i : ℕ) (x : A) → slice_get xs i ≡ Some x → xs ≡ take i xs ++ (x ∷ drop (suc i) xs)
around_itself [] i x h = absurd (none-some _ h)
around_itself (y ∷ xs) zero x h = let s : y ≡ x = cc in ap (λ z. z ∷ xs) s
around_itself (y ∷ xs) (suc i) x h = ap (λ l. y ∷ l) (around_itself xs i x h)

-- the n-th element that passes is at i, and the last one is
pub record NthAt {A : Type 0} (p : A → Bool) (xs : List A) (n i : ℕ) : Type 0 where
  pub it : A
  pub here : slice_get xs i ≡ Some it
  pub passes : p it ≡ true
  pub before : length (filter p (take i xs)) ≡ n

pub record LastAt {A : Type 0} (p : A → Bool) (xs : List A) (i : ℕ) : Type 0 where
  pub it : A
  pub here : slice_get xs i ≡ Some it
  pub passes : p it ≡ true
  pub after : filter p (drop (suc i) xs) ≡ []

-- it is at the place, if there is one
abbrev pub NthIs : {A : Type 0} → (A → Bool) → List A → ℕ → Option ℕ → Type 0
NthIs p xs n None = length (filter p xs) ≤ n
NthIs p xs n (Some i) = NthAt p xs n i

abbrev pub LastIs : {A : Type 0} → (A → Bool) → List A → Option ℕ → Type 0
LastIs p xs None = filter p xs ≡ []
LastIs p xs (Some i) = LastAt p xs i

pub nth_is : {A : Type 0} (p : A → Bool) (xs : List A) (n : ℕ) → NthIs p xs n (nth_place p xs n)
nth_is p [] n = omega arith
nth_is {A = A} p (x ∷ xs) n = go (λ m. nth_is p xs m) (p x) n refl
  where
    next : (b : Bool) (n : ℕ) (o : Option ℕ) → p x ≡ b → NthIs p xs n o → NthIs p (x ∷ xs) (cond b (suc n) n) (option_map suc o)
    next true n None e h = subst (λ (b : Bool). length (cond b (x ∷ filter p xs) (filter p xs)) ≤ suc n) (sym e) (omega arith)
    next false n None e h = subst (λ (b : Bool). length (cond b (x ∷ filter p xs) (filter p xs)) ≤ n) (sym e) h
    next true n (Some i) e h = record { it = h.it; here = h.here; passes = h.passes; before = ap (λ (b : Bool). length (cond b (x ∷ filter p (take i xs)) (filter p (take i xs)))) e ∙ ap suc h.before }
    next false n (Some i) e h = record { it = h.it; here = h.here; passes = h.passes; before = ap (λ (b : Bool). length (cond b (x ∷ filter p (take i xs)) (filter p (take i xs)))) e ∙ h.before }

    go : ((m : ℕ) → NthIs p xs m (nth_place p xs m)) → (b : Bool) (n : ℕ) → p x ≡ b → NthIs p (x ∷ xs) n (nth_step b n (nth_place p xs))
    go ih true zero e = record { it = x; here = refl; passes = e; before = refl }
    go ih true (suc n) e = next true n (nth_place p xs n) e (ih n)
    go ih false n e = next false n (nth_place p xs n) e (ih n)

pub last_is : {A : Type 0} (p : A → Bool) (xs : List A) → LastIs p xs (last_place p xs)
last_is p [] = refl
last_is {A = A} p (x ∷ xs) = go (last_place p xs) (p x) refl (last_is p xs)
  where
    go : (o : Option ℕ) (b : Bool) → p x ≡ b → LastIs p xs o → LastIs p (x ∷ xs) (later o b)
    go None true e h = record { it = x; here = refl; passes = e; after = h }
    go None false e h = ap (λ (b : Bool). cond b (x ∷ filter p xs) (filter p xs)) e ∙ h
    go (Some i) b e h = record { it = h.it; here = h.here; passes = h.passes; after = h.after }

less_suc : (a b : ℕ) → nat_lt (suc a) (suc b) ≡ nat_lt a b
less_suc a b = grind (arith, nat_tests)

less_zero : (n : ℕ) → nat_lt 0 (suc n) ≡ true
less_zero n = grind (arith, nat_tests)

-- the first place is that of the one at 0
pub first_is : {A : Type 0} (p : A → Bool) (xs : List A) → position p xs ≡ nth_place p xs 0
first_is p [] = refl
first_is {A = A} p (x ∷ xs) = go (p x) (first_is p xs)
  where
    next : (b c : Bool) (k : ℕ) → b ≡ c → cond b (Some (suc k)) None ≡ option_map suc (cond c (Some k) None)
    next true true k e = refl
    next false false k e = refl
    next true false k e = absurd (cc)
    next false true k e = absurd (cc)

    go : (b : Bool) → position p xs ≡ nth_place p xs 0
        → let k = cond (not b) (1 + position_or_len p xs) 0 in cond (nat_lt k (suc (length xs))) (Some k) None ≡ nth_step b 0 (nth_place p xs)
    go true ih = ap (λ (b : Bool). cond b (Some 0) None) (less_zero (length xs))
    go false ih =
        let k = position_or_len p xs in
        let one : 1 + k ≡ suc k = omega arith in
        ap (λ (j : ℕ). cond (nat_lt j (suc (length xs))) (Some j) None) one ∙ next (nat_lt (suc k) (suc (length xs))) (nat_lt k (length xs)) k (less_suc k (length xs)) ∙ ap (option_map suc) ih

-- ys are xs with the elements `new` in place of `old`
pub record Splice {A : Type 0} (old new xs ys : List A) : Type 0 where
  pub before : List A
  pub after : List A
  pub was : xs ≡ before ++ (old ++ after)
  pub is : ys ≡ before ++ (new ++ after)

pub around : {A : Type 0} (q : A → Bool) (a m b xs : List A) → xs ≡ a ++ (m ++ b) → filter q xs ≡ filter q a ++ (filter q m ++ filter q b)
around q a m b xs e = ap (filter q) e ∙ filter-append q a (m ++ b) ∙ ap (λ l. filter q a ++ l) (filter-append q m b)

-- so are those that pass
abbrev pub spliced : {A : Type 0} (q : A → Bool) (old new xs ys : List A) → Splice old new xs ys → Splice (filter q old) (filter q new) (filter q xs) (filter q ys)
spliced q old new xs ys s = record { before = filter q s.before; after = filter q s.after; was = around q s.before old s.after xs s.was; is = around q s.before new s.after ys s.is }

pub same_passing : {A : Type 0} (q : A → Bool) (old new xs ys : List A) → Splice old new xs ys → filter q new ≡ filter q old → filter q ys ≡ filter q xs
same_passing q old new xs ys s e = let t = spliced q old new xs ys s in t.is ∙ ap (λ l. filter q s.before ++ (l ++ filter q s.after)) e ∙ sym t.was

abbrev pub back : {A : Type 0} {old new xs ys : List A} → Splice old new xs ys → Splice new old ys xs
back s = record { before = s.before; after = s.after; was = s.is; is = s.was }

-- an element exchanged, taken out, put in and pushed
abbrev pub splice_set : {A : Type 0} (xs ys : List A) (i : ℕ) (x y : A) → slice_get xs i ≡ Some x → ys ≡ set xs i y → Splice (x ∷ []) (y ∷ []) xs ys
splice_set xs ys i x y h e = record { before = take i xs; after = drop (suc i) xs; was = around_itself xs i x h; is = e ∙ set_split xs i y (slice_get_within xs i x h) }

abbrev pub splice_cut : {A : Type 0} (xs ys : List A) (i : ℕ) (x : A) → slice_get xs i ≡ Some x → ys ≡ without (Some i) xs → Splice (x ∷ []) [] xs ys
splice_cut xs ys i x h e = record { before = take i xs; after = drop (suc i) xs; was = around_itself xs i x h; is = e ∙ ap (λ k. take i xs ++ drop k xs) (add-one i) }

abbrev pub splice_put : {A : Type 0} (xs ys : List A) (i : ℕ) (y : A) → ys ≡ put_before (Some i) y xs → Splice [] (y ∷ []) xs ys
splice_put xs ys i y e = record { before = take i xs; after = drop i xs; was = sym (take-append-drop i xs); is = e }

abbrev pub splice_push : {A : Type 0} (xs ys : List A) (y : A) → ys ≡ xs ++ (y ∷ []) → Splice [] (y ∷ []) xs ys
splice_push xs ys y e = record { before = xs; after = []; was = sym (append-nil xs); is = e }

-- at most one element, as a list
abbrev pub listed : {A : Type 0} → Option A → List A
listed None = []
listed (Some x) = x ∷ []

split : {A : Type 0} (xs : List A) (i : ℕ) → xs ≡ take i xs ++ (listed (slice_get xs i) ++ drop (suc i) xs)
split [] zero = refl
split [] (suc i) = refl
split (x ∷ xs) zero = refl
split (x ∷ xs) (suc i) = ap (λ l. x ∷ l) (split xs i)

-- an element in place of the one at a place that was found, or after all; one before it; and without it
pub splice_for : {A : Type 0} (xs ys : List A) (o : Option ℕ) (y : A) → ys ≡ put_for o y xs → Splice (listed (there o xs)) (y ∷ []) xs ys
splice_for xs ys None y e = splice_push xs ys y e
splice_for xs ys (Some i) y e = record { before = take i xs; after = drop (suc i) xs; was = split xs i; is = e ∙ ap (λ k. take i xs ++ (y ∷ drop k xs)) (add-one i) }

pub splice_before : {A : Type 0} (xs ys : List A) (o : Option ℕ) (y : A) → ys ≡ put_before o y xs → Splice [] (y ∷ []) xs ys
splice_before xs ys None y e = splice_push xs ys y e
splice_before xs ys (Some i) y e = splice_put xs ys i y e

pub splice_without : {A : Type 0} (xs ys : List A) (o : Option ℕ) → ys ≡ without o xs → Splice (listed (there o xs)) [] xs ys
splice_without xs ys None e = record { before = xs; after = []; was = sym (append-nil xs); is = e ∙ sym (append-nil xs) }
splice_without xs ys (Some i) e = record { before = take i xs; after = drop (suc i) xs; was = split xs i; is = e ∙ ap (λ k. take i xs ++ drop k xs) (add-one i) }

-- one element, by whether it passes
pub one_passes : {A : Type 0} (p : A → Bool) (x : A) (b : Bool) → p x ≡ b → filter p (x ∷ []) ≡ cond b (x ∷ []) []
one_passes p x b e = ap (λ b. cond b (x ∷ []) []) e

-- what is found in the list of those that pass: the new one, those before it, and those after it
pub get_seam : {A : Type 0} (b r : List A) (x : A) → slice_get (b ++ (x ∷ r)) (length b) ≡ Some x
get_seam [] r x = refl
get_seam (y ∷ b) r x = get_seam b r x

get_front : {A : Type 0} (b r : List A) (j : ℕ) → j < length b → slice_get (b ++ r) j ≡ slice_get b j
get_front [] r j h = absurd (omega arith)
get_front (y ∷ b) r zero h = refl
get_front (y ∷ b) r (suc j) h = get_front b r j (omega arith)

get_past : {A : Type 0} (b r : List A) (x : A) (j : ℕ) → length b ≤ j → slice_get (b ++ (x ∷ r)) (suc j) ≡ slice_get (b ++ r) j
get_past [] r x j h = refl
get_past (y ∷ b) r x zero h = absurd (omega arith)
get_past (y ∷ b) r x (suc j) h = get_past b r x j (omega arith)

pub got_new : {A : Type 0} (n : ℕ) (old r xs ys : List A) (x : A) (s : Splice old (x ∷ r) xs ys) → length s.before ≡ n → slice_get ys n ≡ Some x
got_new n old r xs ys x s e = ap (slice_get ys) (sym e) ∙ ap (λ l. slice_get l (length s.before)) s.is ∙ get_seam s.before (r ++ s.after) x

pub got_before : {A : Type 0} (n j : ℕ) (old new xs ys : List A) (s : Splice old new xs ys) → length s.before ≡ n → j < n → slice_get ys j ≡ slice_get xs j
got_before n j old new xs ys s e h =
    let k : j < length s.before = omega arith in
    ap (λ l. slice_get l j) s.is ∙ get_front s.before (new ++ s.after) j k ∙ sym (get_front s.before (old ++ s.after) j k) ∙ ap (λ l. slice_get l j) (sym s.was)

pub got_later : {A : Type 0} (n j : ℕ) (xs ys : List A) (x : A) (s : Splice [] (x ∷ []) xs ys) → length s.before ≡ n → n ≤ j → slice_get ys (suc j) ≡ slice_get xs j
got_later n j xs ys x s e h = ap (λ l. slice_get l (suc j)) s.is ∙ get_past s.before s.after x j (omega arith) ∙ ap (λ l. slice_get l j) (sym s.was)

pub got_else : {A : Type 0} (n j : ℕ) (xs ys : List A) (x y : A) (s : Splice (x ∷ []) (y ∷ []) xs ys) → length s.before ≡ n → (n ≡ j → ⊥) → slice_get ys j ≡ slice_get xs j
got_else {A = A} n j xs ys x y s e h = ap (λ l. slice_get l j) s.is ∙ go s.before j (λ k. h (sym e ∙ k)) ∙ ap (λ l. slice_get l j) (sym s.was)
  where
    go : (b : List A) (j : ℕ) → (length b ≡ j → ⊥) → slice_get (b ++ (y ∷ s.after)) j ≡ slice_get (b ++ (x ∷ s.after)) j
    go [] zero h = absurd (h refl)
    go [] (suc j) h = refl
    go (z ∷ b) zero h = refl
    go (z ∷ b) (suc j) h = go b j (λ k. h (ap suc k))

pub same_length : {A : Type 0} (old new xs ys : List A) → Splice old new xs ys → length ys + length old ≡ length xs + length new
same_length old new xs ys s =
    let a = ap length s.is ∙ length-append s.before (new ++ s.after) in
    let b = ap length s.was ∙ length-append s.before (old ++ s.after) in
    let c = length-append new s.after in
    let d = length-append old s.after in
    omega arith

-- the last one
last_or-end : {A : Type 0} (o : Option A) (xs : List A) (x : A) → last_or o (xs ++ (x ∷ [])) ≡ Some x
last_or-end o [] x = refl
last_or-end o (y ∷ xs) x = last_or-end (Some y) xs x

pub last_new : {A : Type 0} (old xs ys : List A) (x : A) (s : Splice old (x ∷ []) xs ys) → s.after ≡ [] → last_or None ys ≡ Some x
last_new old xs ys x s e = ap (last_or None) (s.is ∙ ap (λ l. s.before ++ (x ∷ l)) e) ∙ last_or-end None s.before x

-- what is at the last place is the last of those that pass, and what is at the n-th place is the n-th of them
pub last_found : {A : Type 0} (p : A → Bool) (xs : List A) → there (last_place p xs) xs ≡ last_or None (filter p xs)
last_found {A = A} p xs = go (last_place p xs) (last_is p xs)
  where
    go : (o : Option ℕ) → LastIs p xs o → there o xs ≡ last_or None (filter p xs)
    go None h = ap (last_or None) (sym h)
    go (Some i) h =
        let all = around p (take i xs) (h.it ∷ []) (drop (suc i) xs) xs (around_itself xs i h.it h.here) in
        h.here ∙ sym (last_or-end None (filter p (take i xs)) h.it) ∙ ap (λ l. last_or None (filter p (take i xs) ++ l)) (sym (one_passes p h.it true h.passes) ∙ sym (append-nil (filter p (h.it ∷ []))))
        ∙ ap (λ l. last_or None (filter p (take i xs) ++ (filter p (h.it ∷ []) ++ l))) (sym h.after) ∙ ap (last_or None) (sym all)

there_after : {A : Type 0} (x : A) (xs : List A) (o : Option ℕ) → there (option_map suc o) (x ∷ xs) ≡ there o xs
there_after x xs None = refl
there_after x xs (Some i) = refl

pub nth_found : {A : Type 0} (p : A → Bool) (xs : List A) (n : ℕ) → there (nth_place p xs n) xs ≡ slice_get (filter p xs) n
nth_found p [] n = refl
nth_found {A = A} p (x ∷ xs) n = go (λ k. nth_found p xs k) (p x) n
  where
    go : ((k : ℕ) → there (nth_place p xs k) xs ≡ slice_get (filter p xs) k) → (b : Bool) (k : ℕ) → there (nth_step b k (nth_place p xs)) (x ∷ xs) ≡ slice_get (cond b (x ∷ filter p xs) (filter p xs)) k
    go h true zero = refl
    go h true (suc k) = there_after x xs (nth_place p xs k) ∙ h k
    go h false k = there_after x xs (nth_place p xs k) ∙ h k

pub find_first : {A : Type 0} (p : A → Bool) (xs : List A) → find p xs ≡ slice_get (filter p xs) 0
find_first p [] = refl
find_first {A = A} p (x ∷ xs) = go (p x) (find_first p xs)
  where
    go : (b : Bool) → find p xs ≡ slice_get (filter p xs) 0 → cond b (Some x) (find p xs) ≡ slice_get (cond b (x ∷ filter p xs) (filter p xs)) 0
    go true ih = refl
    go false ih = ih

-- the last one, once the first is taken out
pub rest_of_first : {A : Type 0} (l : List A) → (length l ≤ 1 → last_or None (drop 1 l) ≡ None) × (1 < length l → last_or None (drop 1 l) ≡ last_or None l)
rest_of_first [] = (λ h. refl, λ h. absurd (omega arith))
rest_of_first (x ∷ []) = (λ h. refl, λ h. absurd (omega arith))
rest_of_first (x ∷ y ∷ l) = (λ h. absurd (omega arith), λ h. refl)

-- the n-th one passes
pub nth_holds : {A : Type 0} (p : A → Bool) (xs : List A) (n i : ℕ) → nth_place p xs n ≡ Some i → (x : A) × (slice_get xs i ≡ Some x) × (p x ≡ true)
nth_holds p xs n i h = let at : NthAt p xs n i = subst (NthIs p xs n) h (nth_is p xs n) in (at.it, at.here, at.passes)
