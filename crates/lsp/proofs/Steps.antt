-- Steps of a session, and what is written for them.
use Rattle.std.proofs.Common.{arith, suc, length-append, ◌≡◌, ◌++◌, ◌∷◌, ◌+◌, ◌<◌, ◌∙◌, [], ℕ, Bool, true, false, List, Option, None, Some, ap, flat_map, ◌⊎◌, IsTrue, get_or, length, map, refl, subst, sym, take, inl, inr}
use Rattle.std.specs.Option.{option_map_or}
use Rattle.std.proofs.KnownBytes.{Appends-nil, Appends-trans, Consumes-nil, Consumes-trans}
use Rattle.std.proofs.lemmas.Grind.{flat_map-append}
use Rattle.std.proofs.lemmas.List.{append-nil, append_assoc, map-append, take_more}
use Rattle.std.specs.Io.KnownBytes.{Appends, Consumes, Keeps}
use Rattle.lsp.specs.Turns.{ArePublished, AreSteps, IsEnd, IsNew, IsStep, Published, Serves, ServesFrames, Step, TakesFrames, Took, taken_in, written_for}
use Rattle.lsp.specs.declared.session.End.{End}
use Rattle.lsp.specs.declared.session.End.TheVariants.{EndInFrame, EndOfInput, Exit, NoFrame}
use Rattle.lsp_documents.specs.States.{is_over}
use Rattle.lsp_documents.specs.declared.state.Phase.{Phase}
use Rattle.lsp_documents.specs.declared.state.Phase.TheVariants.{Down, New, Over, Running}
use Rattle.lsp_documents.specs.declared.state.State.{State}
use Rattle.lsp_frames.specs.Frames.{AreFrames, frame_in, frame_of, head_size, is_bad, left_after}
use Rattle.lsp_frames.specs.Heads.{place_of}
use Rattle.lsp_frames.proofs.Growing.{empty_none, frames_more, frames_pushed}

-- what is written for one more of some things, which are read as others first
pub one_read : {A B : Type 0} (f : B → List ℕ) (r : A → B) (a b c : Option (List ℕ)) (xs : List A) (i : ℕ) (d : A) (bs : List ℕ) → i < length xs → bs ≡ f (r (get_or xs i d))
    → Appends a b (flat_map f (map r (take i xs))) → Appends b c bs → Appends a c (flat_map f (map r (take (i + 1) xs)))
one_read f r a b c xs i d bs inside is old new =
    let x = get_or xs i d in
    let whole : flat_map f (map r (take (i + 1) xs)) ≡ flat_map f (map r (take i xs)) ++ bs =
    ap (λ t. flat_map f (map r t)) (take_more xs i d inside) ∙ ap (flat_map f) (map-append r (take i xs) (x ∷ [])) ∙ flat_map-append f (map r (take i xs)) (r x ∷ [])
    ∙ ap (λ t. flat_map f (map r (take i xs)) ++ t) (append-nil (f (r x)) ∙ sym is) in
    subst (Appends a c) (sym whole) (Appends-trans a b c _ _ old new)

-- nothing changes after what is written
pub kept_after : (a b c : Option (List ℕ)) (bs : List ℕ) → Appends a b bs → Keeps b c → Appends a c bs
kept_after None b c bs p q = tt
kept_after (Some x) None c bs p q = absurd p
kept_after (Some x) (Some y) None bs p q = absurd q
kept_after (Some x) (Some y) (Some z) bs p q = q ∙ p

pub two_written : (a b c : Option (List ℕ)) (x y : List ℕ) → Appends a b (frame_of x) → Appends b c (frame_of y) → Appends a c (flat_map frame_of (x ∷ y ∷ []))
two_written a b c x y p q = Appends-trans a b c (frame_of x) (frame_of y ++ []) p (subst (Appends b c) (sym (append-nil (frame_of y))) q)

-- steps after others
pub steps_on : (old mid new : State) (ss ts : List Step) → AreSteps old ss mid → AreSteps mid ts new → AreSteps old (ss ++ ts) new
steps_on old mid new [] ts a b = subst (λ s. AreSteps s ts new) (sym a) b
steps_on old mid new (s ∷ ss) ts a b = (a.0, a.1, steps_on a.0 mid new ss ts a.2 b)

-- the messages that they take
pub taken_on : (ss ts : List Step) → taken_in (ss ++ ts) ≡ taken_in ss ++ taken_in ts
taken_on [] ts = refl
taken_on (Took m sent ∷ ss) ts = ap (λ ms. m ∷ ms) (taken_on ss ts)
taken_on (Published sent ∷ ss) ts = taken_on ss ts

-- what is written for them
pub written_on : (a b c : Option (List ℕ)) (ss ts : List Step) → Appends a b (flat_map written_for ss) → Appends b c (flat_map written_for ts) → Appends a c (flat_map written_for (ss ++ ts))
written_on a b c ss ts p q = subst (Appends a c) (sym (flat_map-append written_for ss ts)) (Appends-trans a b c _ _ p q)

-- a step alone
pub written_alone : (a b : Option (List ℕ)) (s : Step) → Appends a b (written_for s) → Appends a b (flat_map written_for (s ∷ []))
written_alone a b s p = subst (Appends a b) (sym (append-nil (written_for s))) p

-- a frame more is taken
pub took_more : (bytes : List ℕ) (ss : List Step) (mid message rest : List ℕ) (sent : List (List ℕ)) → AreFrames bytes (taken_in ss) mid → frame_in mid ≡ Some (message, rest) → AreFrames bytes (taken_in (ss ++ Took message sent ∷ [])) rest
took_more bytes ss mid message rest sent h e = subst (λ ms. AreFrames bytes ms rest) (sym (taken_on ss (Took message sent ∷ []))) (frames_more bytes (taken_in ss) mid message rest h e)

-- no frame is left
pub none_left : (old new : List ℕ) → frame_in old ≡ None → new ≡ left_after old → new ≡ old
none_left old new none is = is ∙ ap (λ (o : Option (List ℕ × List ℕ)). option_map_or (λ f. f.1) o old) none

pub took_all : (old new : State) (frames mid rest : List ℕ) (a b : Option (List ℕ)) (ss : List Step) → AreFrames frames (taken_in ss) mid → AreSteps old ss new → Appends a b (flat_map written_for ss)
    → frame_in mid ≡ None → rest ≡ left_after mid → TakesFrames old frames rest a b new
took_all old new frames mid rest a b ss taken led written none is =
    let same = none_left mid rest none is in
    record { steps = ss; written = written; taken = subst (AreFrames frames (taken_in ss)) (sym same) taken; led = led; ended = inr (ap frame_in same ∙ none) }

-- the frames are taken, and then faults published
pub served : (old mid new : State) (frames rest : List ℕ) (a b c d e : Option (List ℕ)) (sent : List (List ℕ)) → TakesFrames old frames rest a b mid → Keeps b c → IsStep (Published sent) mid new
    → Appends c d (flat_map frame_of sent) → Keeps d e → new.phase ≡ mid.phase → ServesFrames old frames rest a e new
served old mid new frames rest a b c d e sent t k p w l same =
    let last = Published sent in
    record {
      front = t.steps;
      sent = sent;
      written = kept_after a d e _ (written_on a c d t.steps (last ∷ []) (kept_after a b c _ t.written k) (written_alone c d last w)) l;
      taken = t.taken;
      led = steps_on old mid new t.steps (last ∷ []) t.led (new, p, refl);
      ended = subst (λ phase. IsTrue (is_over phase) ⊎ (frame_in rest ≡ None)) (sym same) t.ended;
    }

not_both : (b : Bool) → b ≡ true → b ≡ false → ⊥
not_both true t f = cc (f)
not_both false t f = cc (t)

-- ---- a session that goes on: what was read and written so far

pub record Going (had left held holds : Option (List ℕ)) (first s : State) (frames : List ℕ) : Type 0 where
  pub bytes : List ℕ
  pub steps : List Step
  pub read : Consumes had left bytes
  pub taken : AreFrames bytes (taken_in steps) frames
  pub led : AreSteps first steps s
  pub written : Appends held holds (flat_map written_for steps)
  pub published : ArePublished steps

pub begun : (had held : Option (List ℕ)) (first : State) (frames : List ℕ) → frames ≡ [] → Going had had held held first first frames × (frame_in frames ≡ None)
begun had held first frames none = (
  record { bytes = []; steps = []; read = Consumes-nil had; taken = sym none; led = refl; written = Appends-nil held; published = inl refl },
  ap frame_in none ∙ empty_none,
)

-- more bytes are read, and their frames served
pub gone_on : (had left more held holds next : Option (List ℕ)) (first s new : State) (frames pushed rest part : List ℕ) → Going had left held holds first s frames → Consumes left more part
    → pushed ≡ frames ++ part → ServesFrames s pushed rest holds next new → Going had more held next first new rest
gone_on had left more held holds next first s new frames pushed rest part g read is t =
    let steps = t.front ++ Published t.sent ∷ [] in
    let same : taken_in steps ≡ taken_in t.front = taken_on t.front (Published t.sent ∷ []) ∙ append-nil (taken_in t.front) in
    record {
      bytes = g.bytes ++ part;
      steps = g.steps ++ steps;
      read = Consumes-trans had left more g.bytes part g.read read;
      taken = frames_pushed g.bytes (g.bytes ++ part) frames pushed part rest (taken_in g.steps) (taken_in t.front) (taken_in (g.steps ++ steps)) g.taken is t.taken refl
          (taken_on g.steps steps ∙ ap (λ ms. taken_in g.steps ++ ms) same);
      led = steps_on first s new g.steps steps g.led t.led;
      written = written_on held holds next g.steps steps g.written t.written;
      published = inr (g.steps ++ t.front, t.sent, sym (append_assoc g.steps t.front (Published t.sent ∷ [])));
    }

-- all whole frames are taken, unless the session is over
pub all_taken : (p : Phase) (b : Bool) (rest : List ℕ) → IsTrue (is_over p) ⊎ (frame_in rest ≡ None) → b ≡ is_over p → b ≡ false → frame_in rest ≡ None
all_taken p b rest (inl over) is none = absurd (not_both (is_over p) over (sym is ∙ none))
all_taken p b rest (inr left) is none = left

read_none : (had left end : Option (List ℕ)) (bytes chunk : List ℕ) (n : ℕ) → n ≡ 0 → Consumes had left bytes → Consumes left end (take n chunk) → Consumes had end bytes
read_none had left end bytes chunk n none read more =
    let last : Consumes left end (take 0 chunk) = subst (λ k. Consumes left end (take k chunk)) none more in
    subst (Consumes had end) (append-nil bytes) (Consumes-trans had left end bytes [] read last)

pub ended : (had left held holds : Option (List ℕ)) (first s : State) (frames : List ℕ) (end : End) → Going had left held holds first s frames → IsNew first → IsEnd end s frames left → Serves had left held holds end
ended had left held holds first s frames end g new so = record {
  bytes = g.bytes;
  rest = frames;
  steps = g.steps;
  first = first;
  last = s;
  starts = new;
  read = g.read;
  taken = g.taken;
  led = g.led;
  written = g.written;
  published = g.published;
  ended = so;
}

pub not_over : (p : Phase) → ((was_down : Bool) → p ≡ Over was_down → ⊥) → is_over p ≡ false
not_over New other = refl
not_over Running other = refl
not_over Down other = refl
not_over (Over b) other = absurd (other b refl)

-- room is made before bytes are pushed
pub pushed_after : (old room new part : List ℕ) → room ≡ old → new ≡ room ++ part → new ≡ old ++ part
pushed_after old room new part same is = is ∙ ap (λ f. f ++ part) same

pub end_on : (end : End) (s : State) (room old : List ℕ) (left : Option (List ℕ)) → room ≡ old → IsEnd end s room left → IsEnd end s old left
end_on end s room old left same so = subst (λ f. IsEnd end s f left) same so

-- nothing more is read
pub going_read : (had left end held holds : Option (List ℕ)) (first s : State) (frames chunk : List ℕ) (n : ℕ) → n ≡ 0 → Consumes left end (take n chunk) → Going had left held holds first s frames → Going had end held holds first s frames
going_read had left end held holds first s frames chunk n none more g = record {
  bytes = g.bytes;
  steps = g.steps;
  read = read_none had left end g.bytes chunk n none g.read more;
  taken = g.taken;
  led = g.led;
  written = g.written;
  published = g.published;
}

-- ---- what sessions are not

pub not_published : (message : List ℕ) (sent : List (List ℕ)) → ArePublished (Took message sent ∷ []) → ⊥
not_published message sent (inl none) = let h : 1 ≡ 0 = ap length none in absurd (omega (arith, h))
not_published message sent (inr ([], other, is)) = absurd cc
not_published message sent (inr (s ∷ front, other, is)) = let h : 1 ≡ suc (length (front ++ Published other ∷ [])) = ap length is in absurd (omega (arith, h, length-append front (Published other ∷ [])))

empty_is_good : is_bad [] ≡ false
unfolding is_bad head_size place_of
empty_is_good = refl

pub not_ended : (s : State) (end : End) → s.phase ≡ Running → IsEnd end s [] (Some (97 ∷ [])) → ⊥
not_ended s (Exit was_down) running over = absurd (cc (running, over))
not_ended s NoFrame running (on, bad) = not_both (is_bad []) bad empty_is_good
not_ended s EndOfInput running (on, end, rest) = let h : 1 ≡ 0 = ap length end in absurd (omega (arith, h))
not_ended s EndInFrame running (on, end, rest, none) = let h : 1 ≡ 0 = ap length end in absurd (omega (arith, h))
