-- Messages that are sent.
use Rattle.std.proofs.Common.{arith, suc, ◌≡◌, ◌⊎◌, ◌++◌, ◌∷◌, ◌<◌, ◌+◌, ◌∙◌, [], ℕ, All, List, Option, None, Some, String, Vec, Global, Contains, IfOk, IfSome, IsNone, IsSome, IsSomeAnd, MatchOption, OnOk, Result, Ok, Err, ap, drop, get_or, IsErr, inl, inr, length, length-append, refl, string_bytes, subst, sym}
use Rattle.std.specs.BTreeMap.{IsEmpty, get_by_text}
use Rattle.std.proofs.lemmas.List.{append-nil, append_assoc}
use Rattle.std.proofs.lemmas.List.Elements.{All-append, All-cons, All-nil, Contains-append_left, Contains-push}
use Rattle.json.specs.declared.value.Value.{fold-roll-Value}
use Rattle.json.specs.declared.value.Value.TheOpen.{Value-F}
use Rattle.json.specs.declared.value.Value.TheVariants.{Null, rolls-Null}
use Rattle.json.specs.Json.{Json, document, null}
use Rattle.json.specs.Value.{value_view, view_step}
use Rattle.lsp_documents.specs.Notes.{IsOf, Note, Opened, Changed, Closed, after}
use Rattle.lsp_documents.specs.Outcomes.{IsTaken, MarksDue}
use Rattle.lsp_documents.specs.States.{SessionStays, is_over}
use Rattle.lsp_documents.specs.declared.state.Phase.TheVariants.{New, Running}
use Rattle.lsp_documents.specs.declared.state.State.{State}
use Rattle.lsp.specs.Contents.{IsAnswer}
use Rattle.lsp.specs.Faults.{PublishEach, known_at}
use Rattle.lsp.specs.Replies.{IsFailure, IsGreeting, IsLogOf, IsLogWith, IsNotice, IsReplyTo, Logs, LogsOf, OneReply}
use Rattle.lsp.specs.Turns.{Publishes, Takes, sent_of}
use Rattle.lsp.proofs.Publishing.{EachBy}

-- `null` as JSON
pub null_is_null : value_view {A = Global} Null ≡ null
null_is_null = ap (value_view {A = Global}) (sym rolls-Null) ∙ fold-roll-Value Global Json view_step Value-F.Null

-- what holds, also if a call succeeds
pub on_ok : {T E P : Type 0} (r : Result T E) → P → OnOk r P
on_ok (Ok x) p = p
on_ok (Err e) p = tt

-- ---- one reply

-- after notifications
pub reply_last : (Is : String Global → Type 0) (ms ns : List (String Global)) (m : String Global) → ns ≡ ms ++ m ∷ [] → All IsNotice ms → Is m → OneReply Is ns
unfolding OneReply
reply_last Is ms ns m e all is = (ms, m, [], e, is, subst (All IsNotice) (sym (append-nil ms)) all)

-- alone
pub reply_alone : (Is : String Global → Type 0) (ns : List (String Global)) (m : String Global) → ns ≡ m ∷ [] → Is m → OneReply Is ns
reply_alone Is ns m e is = reply_last Is [] ns m e (All-nil IsNotice) is

-- before more notifications
pub reply_more : (Is : String Global → Type 0) (ms ns ls : List (String Global)) → ns ≡ ms ++ ls → All IsNotice ls → OneReply Is ms → OneReply Is ns
unfolding OneReply
reply_more Is ms ns ls e all (before, m, rear, split, is, notices) = (
  before,
  m,
  rear ++ ls,
  e ∙ ap (λ xs. xs ++ ls) split ∙ append_assoc before (m ∷ rear) ls,
  is,
  subst (All IsNotice) (append_assoc before rear ls) (All-append IsNotice (before ++ rear) ls notices all),
)

-- of which something else is so
pub reply_so : (Is Also : String Global → Type 0) (ms : List (String Global)) → ((m : String Global) → Is m → Also m) → OneReply Is ms → OneReply Also ms
unfolding OneReply
reply_so Is Also ms also (before, m, rear, split, is, notices) = (before, m, rear, split, also m is, notices)

-- ---- notifications

pub log_is_notice : (text : List ℕ) (m : String Global) → IsLogWith text m → IsNotice m
log_is_notice text m (n, is) = (_, _, is)

pub one_notice : (ns : List (String Global)) (m : String Global) → ns ≡ m ∷ [] → IsNotice m → All IsNotice ns
one_notice ns m e is = subst (All IsNotice) (sym e) (All-cons IsNotice m [] is (All-nil IsNotice))

each_by : (s : State) (u : String Global) (us ms : List (String Global)) (k : Option _) → ((ns : List (String Global)) → PublishEach s us ns → All IsNotice ns) → EachBy s u us ms k → All IsNotice ms
each_by s u us ms None rest each = rest ms each
each_by s u us ms (Some k) rest (m, ns, split, is, each) = subst (All IsNotice) (sym split) (All-cons IsNotice m ns (_, _, is.4) (rest ns each))

-- what is published are notifications
pub faults_are_notices : (s : State) (us ms : List (String Global)) → PublishEach s us ms → All IsNotice ms
faults_are_notices s [] ms each = subst (All IsNotice) (sym each) (All-nil IsNotice)
faults_are_notices s (u ∷ us) ms each = each_by s u us ms (known_at s (string_bytes u)) (faults_are_notices s us) each

pub faults_sent : {E : Type 0} (old new : State) (r : Result (Vec (String Global) Global) E) (out : Vec (String Global) Global) → r ≡ Ok out → Publishes old (sent_of r) new → All IsNotice out.items
faults_sent old new r out is p = let q = subst (λ x. Publishes old (sent_of x) new) is p in faults_are_notices old old.due.items out.items q.published.0

-- ---- messages for the log

pub logs_last : (ms ns : List (String Global)) (m : String Global) (text : List ℕ) → ns ≡ ms ++ m ∷ [] → IsLogWith text m → Logs ns
unfolding Logs
logs_last ms ns m text e is = (m, subst (λ l. Contains l m) (sym e) (Contains-push ms m), (text, is))

pub logs_of_alone : (ns : List (String Global)) (uri : List ℕ) (m : String Global) → ns ≡ m ∷ [] → IsLogOf uri m → LogsOf ns uri
unfolding LogsOf
logs_of_alone ns uri m e is = (m, subst (λ l. Contains l m) (sym e) (Contains-push [] m), is)

logs_more : (ms ns ls : List (String Global)) → ns ≡ ms ++ ls → Logs ms → Logs ns
unfolding Logs
logs_more ms ns ls e (m, has, is) = (m, subst (λ l. Contains l m) (sym e) (Contains-append_left ms ls m has), is)

logs_of_more : (ms ns ls : List (String Global)) (uri : List ℕ) → ns ≡ ms ++ ls → LogsOf ms uri → LogsOf ns uri
unfolding LogsOf
logs_of_more ms ns ls uri e (m, has, is) = (m, subst (λ l. Contains l m) (sym e) (Contains-append_left ms ls m has), is)

-- some messages, and then others
pub sent_next : (ks ls cs us vs : List (String Global)) → ls ≡ ks ++ us → cs ≡ ls ++ vs → cs ≡ ks ++ (us ++ vs)
sent_next ks ls cs us vs p q = q ∙ ap (λ xs. xs ++ vs) p ∙ append_assoc ks us vs

-- the same documents, where more is told
pub taken_on : (old new other : State) (Says Tells : List ℕ → Type 0) (note : Note) → other.open ≡ new.open → ((uri : List ℕ) → Says uri → Tells uri) → IsTaken old new Says note → IsTaken old other Tells note
taken_on old new other Says Tells (Opened uri text) e f t = λ none. subst (λ o. IsSomeAnd (get_by_text o uri) (λ document. IsSome document.text)) (sym e) (t (λ says. none (f uri says)))
taken_on old new other Says Tells (Changed uri changes) e f t = λ none was. subst (λ o. IsSomeAnd (get_by_text o uri) (λ document. IsSome document.text)) (sym e) (t (λ says. none (f uri says)) was)
taken_on old new other Says Tells (Closed uri) e f t = subst (λ o. IsNone (get_by_text o uri)) (sym e) t

pub marks_on : (old new : State) (Says Tells : List ℕ → Type 0) (note : Note) → ((uri : List ℕ) → Says uri → Tells uri) → MarksDue old new Says note → MarksDue old new Tells note
marks_on old new Says Tells (Opened uri text) f m = λ none. m (λ says. none (f uri says))
marks_on old new Says Tells (Changed uri changes) f m = λ none. m (λ says. none (f uri says))
marks_on old new Says Tells (Closed uri) f m = tt

abbrev Started : Json → State → String Global → Type 0
Started id s m = IsFailure id m ⊎ ((s.phase ≡ Running) × IsGreeting id s.client.encoding m)

started_on : (id : Json) (new other : State) → other.phase ≡ new.phase → other.client ≡ new.client → (m : String Global) → Started id new m → Started id other m
started_on id new other p k m (inl fails) = inl fails
started_on id new other p k m (inr (phase, greets)) = inr (p ∙ phase, subst (λ c. IsGreeting id c.encoding m) (sym k) greets)

client_on : (old new other : State) → other.phase ≡ new.phase → other.client ≡ new.client → (new.client ≡ old.client) ⊎ ((old.phase ≡ New) × (new.phase ≡ Running))
    → (other.client ≡ old.client) ⊎ ((old.phase ≡ New) × (other.phase ≡ Running))
client_on old new other p k (inl same) = inl (k ∙ same)
client_on old new other p k (inr (early, running)) = inr (early, p ∙ running)

-- a message is taken, and others are sent that change neither documents nor the session
pub takes_on : (old new other : State) (message : List ℕ) (ms ns ls : List (String Global)) → other.open ≡ new.open → SessionStays new other → ns ≡ ms ++ ls → All IsNotice ls → Takes old message (Some ms) new → Takes old message (Some ns) other
takes_on old new other message ms ns ls e (p, k) a all t = record {
  refused = λ none. (let r = t.refused none in (subst IsEmpty (sym e) r.0, (p ∙ r.1.0, k ∙ r.1.1), reply_more (IsReplyTo null) ms ns ls a all r.2, logs_more ms ns ls a r.3));
  told = λ running note texts tells agrees. subst (λ o. (uri : List ℕ) → IfSome (get_by_text o uri) (IsOf (after old.client.encoding note texts uri))) (sym e) (t.told running note texts tells agrees);
  untold = λ none texts agrees. subst (λ o. (uri : List ℕ) → IfSome (get_by_text o uri) (IsOf (texts uri))) (sym e) (t.untold none texts agrees);
  session = λ note tells. (let s = t.session note tells in (p ∙ s.0, k ∙ s.1));
  stays = λ uri changes tells. subst (λ o. MatchOption (get_by_text old.open uri) (IsNone (get_by_text o uri)) (λ d. IsSome (get_by_text o uri))) (sym e) (t.stays uri changes tells);
  others = λ is uri names. ap (λ o. get_by_text o uri) e ∙ t.others is uri names;
  all = λ quiet. e ∙ t.all quiet;
  taken = λ running note tells. taken_on old new other (LogsOf ms) (LogsOf ns) note e (λ uri. logs_of_more ms ns ls uri a) (t.taken running note tells);
  replied = λ id asks. reply_more (IsReplyTo id) ms ns ls a all (t.replied id asks);
  unasked = λ notifies. subst (All IsNotice) (sym a) (All-append IsNotice ms ls (t.unasked notifies) all);
  answered = λ running id method params asks. reply_more (IsAnswer old id method params) ms ns ls a all (t.answered running id method params asks);
  started = λ early id starts. reply_more (Started id other) ms ns ls a all (reply_so (Started id new) (Started id other) ms (started_on id new other p k) (t.started early id starts));
  client = client_on old new other p k t.client;
  exited = λ exits. p ∙ t.exited exits;
  goes_on = λ stays. ap is_over p ∙ t.goes_on stays;
}

none_sent : {E : Type 0} (r : Result (Vec (String Global) Global) E) → IsErr r → sent_of r ≡ None
none_sent (Ok ms) is = absurd cc
none_sent (Err e) is = refl

-- the same, where there is no memory for the messages
pub takes_lost : {E : Type 0} (old new other : State) (message : List ℕ) (ms : List (String Global)) (r : Result (Vec (String Global) Global) E) → other.open ≡ new.open → SessionStays new other → Takes old message (Some ms) new
    → IsErr r → Takes old message (sent_of r) other
takes_lost old new other message ms r same (p, k) t is =
    let none = none_sent r is in
    subst (λ s. Takes old message s other) (sym none) (record {
      refused = λ u. tt;
      told = λ running note texts tells agrees. subst (λ o. (uri : List ℕ) → IfSome (get_by_text o uri) (IsOf (after old.client.encoding note texts uri))) (sym same) (t.told running note texts tells agrees);
      untold = λ u texts agrees. subst (λ o. (uri : List ℕ) → IfSome (get_by_text o uri) (IsOf (texts uri))) (sym same) (t.untold u texts agrees);
      session = λ note tells. (let s = t.session note tells in (p ∙ s.0, k ∙ s.1));
      stays = λ uri changes tells. tt;
      others = λ u. tt;
      all = λ u. tt;
      taken = λ running note tells. tt;
      replied = λ id asks. tt;
      unasked = λ notifies. tt;
      answered = λ running id method params asks. tt;
      started = λ early id starts. tt;
      client = client_on old new other p k t.client;
      exited = λ exits. tt;
      goes_on = λ stays. ap is_over p ∙ t.goes_on stays;
    })

-- ---- what replies are not

-- a list without messages has none
pub none_replies : (Is : String Global → Type 0) → OneReply Is [] → ⊥
unfolding OneReply
none_replies Is (before, m, rear, split, is, notices) = let h : 0 ≡ length before + suc (length rear) = ap length split ∙ length-append before (m ∷ rear) in absurd (omega (arith, h))

pub none_logs : Logs [] → ⊥
unfolding Logs
none_logs (m, has, is) = let l : has.0 < 0 = has.1 in absurd (omega (arith, l))

-- two replies are not one
pub not_twice : (Is : String Global → Type 0) (m n : String Global) → (IsNotice m → ⊥) → (IsNotice n → ⊥) → OneReply Is (m ∷ n ∷ []) → ⊥
unfolding OneReply
not_twice Is m n first second ([], k, rear, split, is, notices) = let rest : n ∷ [] ≡ rear = ap (drop 1) split in second (subst (All IsNotice) (sym rest) notices 0 n (omega arith))
not_twice Is m n first second (x ∷ xs, k, rear, split, is, notices) = let same : m ≡ x = ap (λ l. get_or l 0 m) split in first (subst IsNotice (sym same) (notices 0 m (omega arith)))

-- one message is the reply
pub alone : (Is : String Global → Type 0) (m : String Global) → OneReply Is (m ∷ []) → Is m
unfolding OneReply
alone Is m ([], k, rear, split, is, notices) = let same : m ≡ k = ap (λ l. get_or l 0 m) split in subst Is (sym same) is
alone Is m (x ∷ xs, k, rear, split, is, notices) = let h : 1 ≡ suc (length xs + suc (length rear)) = ap length split ∙ ap suc (length-append xs (k ∷ rear)) in absurd (omega (arith, h))

-- ---- messages that are sent

pub some_sent : {E : Type 0} (r : Result (Vec (String Global) Global) E) (P : List (String Global) → Type 0) → IfOk r (λ out. P out.items) → IfSome (sent_of r) P
some_sent (Ok out) P p = p
some_sent (Err e) P p = tt

pub sent_of_all : {E : Type 0} (r : Result (Vec (String Global) Global) E) (P : Type 0) → P → IfSome (sent_of r) (λ _. P)
sent_of_all (Ok out) P p = p
sent_of_all (Err e) P p = tt
