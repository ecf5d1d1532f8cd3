-- What is left where a frame is taken.
use Rattle.std.proofs.Common.{◌≡◌, ℕ, ◌+◌, ◌-◌, ◌<◌, ◌≤◌, false, nat_le, Option, None, Some, is_none, IsSomeAnd, List, [], ◌∷◌, ◌++◌, length, take, drop, map, refl, sym, ap, ◌∙◌, subst, arith}
use Rattle.std.specs.Option.{option_map_or}
use Rattle.std.proofs.lemmas.List.{append_assoc, drop-drop, length-drop, map-append, take_rest}
use Rattle.lsp_frames.specs.declared.front.Front.{Front}
use Rattle.lsp_frames.specs.declared.front.Front.TheVariants.{Whole, Part, Bad}
use Rattle.lsp_frames.specs.Heads.{length_in}
use Rattle.lsp_frames.specs.Frames.{IsFrontOf, frame_in, is_bad, left_after, most}
use Rattle.lsp_frames.proofs.Fronts.{frame_parts, rest_of_frame}

-- the bytes that are left, as the code passes them
pub passed : (raw items now : List ℕ) (taken : ℕ) (front : Front) → raw ≡ items → drop taken items ≡ now → IsFrontOf (take (length raw - taken) (drop taken raw)) front → IsFrontOf now front
passed raw items now taken front same e h = subst (λ (t : List ℕ). IsFrontOf t front) (take_rest raw taken ∙ ap (drop taken) same ∙ e) h

pub rest_fits : (items now message rest : List ℕ) (taken : ℕ) → drop taken items ≡ now → frame_in now ≡ Some (message, rest) → length rest ≤ length items
rest_fits items now message rest taken e f =
    let r = rest_of_frame now message rest f in
    omega (arith, ap length r.rest_is, length-drop r.count now, ap length e, length-drop taken items)

pub rest_left : (items now message rest : List ℕ) (taken : ℕ) → taken ≤ length items → drop taken items ≡ now → frame_in now ≡ Some (message, rest) → drop (length items - length rest) items ≡ left_after now
rest_left items now message rest taken l e f =
    let r = rest_of_frame now message rest f in
    let whole : rest ≡ drop (taken + r.count) items = r.rest_is ∙ ap (drop r.count) (sym e) ∙ drop-drop r.count taken items in
    let n : length items - length rest ≡ taken + r.count =
    omega (arith, ap length whole, length-drop (taken + r.count) items, r.within, ap length e, length-drop taken items) in
    ap (λ k. drop k items) n ∙ sym whole ∙ sym (ap (λ (o : Option (List ℕ × List ℕ)). option_map_or (λ g. g.1) o now) f)

pub is_first : (now message rest : List ℕ) → frame_in now ≡ Some (message, rest) → IsSomeAnd (frame_in now) (λ f. f.0 ≡ message)
is_first now message rest f = subst (λ (o : Option (List ℕ × List ℕ)). IsSomeAnd o (λ g. g.0 ≡ message)) (sym f) refl

pub whole_is_not_bad : (bytes message rest : List ℕ) → frame_in bytes ≡ Some (message, rest) → is_bad bytes ≡ false
unfolding is_bad
whole_is_not_bad bytes message rest e =
    let f = frame_parts bytes message rest e in
    ap (λ (o : Option ℕ). option_map_or (λ size. is_none (length_in (take size bytes))) o (nat_le most (length bytes))) f.head
    ∙ ap (λ (o : Option ℕ). is_none o) f.given

pub other_than_bad : (bytes : List ℕ) (front : Front) → IsFrontOf bytes front → (front ≡ Bad → ⊥) → is_bad bytes ≡ false
other_than_bad bytes (Whole message rest) h other = whole_is_not_bad bytes message.now rest.now h
other_than_bad bytes Part h other = h.1
other_than_bad bytes Bad h other = absurd (other refl)

-- ---- what a call of `next_message` tells

given_by : (old new message : List ℕ) (o : Option (List ℕ × List ℕ)) → frame_in old ≡ o → IsSomeAnd o (λ f. f.0 ≡ message) → new ≡ option_map_or (λ f. f.1) o old → frame_in old ≡ Some (message, new)
given_by old new message None e h n = absurd h
given_by old new message (Some (m, rest)) e h n = e ∙ ap (λ t. Some (t, rest)) h ∙ ap (λ t. Some (message, t)) (sym n)

pub given : (old new message : List ℕ) → IsSomeAnd (frame_in old) (λ f. f.0 ≡ message) → new ≡ left_after old → frame_in old ≡ Some (message, new)
given old new message h n = given_by old new message (frame_in old) refl h n

pub given_shorter : (old new message : List ℕ) → frame_in old ≡ Some (message, new) → length new < length old
given_shorter old new message e =
    let r = rest_of_frame old message new e in
    omega (arith, r.some, r.within, ap length r.rest_is, length-drop r.count old)

pub items_pushed : {V : Type 0} (f : V → List ℕ) (new old first : List V) (v : V) (m : List ℕ) (ms : List (List ℕ)) → new ≡ old ++ v ∷ [] → f v ≡ m → map f old ≡ map f first ++ ms → map f new ≡ map f first ++ (ms ++ m ∷ [])
items_pushed f new old first v m ms n e h =
    ap (map f) n ∙ map-append f old (v ∷ []) ∙ ap (λ t. t ++ f v ∷ []) h ∙ append_assoc (map f first) ms (f v ∷ []) ∙ ap (λ x. map f first ++ (ms ++ x ∷ [])) e
