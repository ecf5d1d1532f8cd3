-- What a server does with a message of a client, and with the documents whose faults are due.
use Rattle.std.specs.Prelude.{◌≡◌, ◌≢◌, ◌⊎◌, ◌++◌, ◌∷◌, [], ℕ, false, List, All, Option, None, Some, Result, Ok, Err, Vec, String, IfSome, MatchOption, IsSome, IsTrue, IsUtf8, codes, flat_map, map, string_bytes}
use Rattle.std.specs.BTreeMap.{IsEmpty}
use Rattle.std.specs.Global.{Global}
use Rattle.std.specs.Io.KnownBytes.{Appends, Consumes, IsAtEnd}
use Rattle.json.specs.Json.{Json, document, null}
use Rattle.lsp.specs.Contents.{IsAnswer}
use Rattle.lsp.specs.Faults.{PublishEach}
use Rattle.lsp.specs.Messages.{Asks, AsksFor, Exits, IsQuiet, Names, Notifies, Starts, TextTells}
use Rattle.lsp.specs.Replies.{IsFailure, IsGreeting, IsNotice, IsReplyFor, IsReplyTo, Logs, LogsOf, OneReply}
use Rattle.lsp.specs.declared.session.End.{End}
use Rattle.lsp.specs.declared.session.End.TheVariants.{EndInFrame, EndOfInput, Exit, NoFrame}
use Rattle.lsp.specs.declared.write.Wrong.TheVariants.{Memory}
use Rattle.lsp_documents.specs.Notes.{Agrees, Changed, Note, Texts, after}
use Rattle.lsp_documents.specs.Outcomes.{IsTaken, MarksDue, StaysOpen}
use Rattle.lsp_documents.specs.States.{SessionStays, document_at, is_down, is_over}
use Rattle.lsp_documents.specs.declared.state.Phase.TheVariants.{New, Running, Over}
use Rattle.lsp_documents.specs.declared.state.State.{State}
use Rattle.lsp_frames.specs.Frames.{AreFrames, frame_in, frame_of, is_bad}
use Rattle.lsp_text.specs.Positions.{Text}
use Rattle.lsp_text.specs.declared.position.Encoding.TheVariants.{Utf16}
use Rattle.lsp_text.specs.declared.position.Range.{Range}

-- the messages that a server sends, if it has memory for them
abbrev pub Sent : Type 0
Sent = Option (List (String Global))

abbrev pub sent_of : {E : Type 0} → Result (Vec (String Global) Global) E → Sent
sent_of (Ok ms) = Some ms.items
sent_of (Err e) = None

-- a server takes a message, which changes what it knows, and sends others for it
pub record Takes (old : State) (message : List ℕ) (sent : Sent) (new : State) : Type 0 where
  -- a text that is not JSON may have told a change: no document is open afterwards, and the client is told so
  pub refused : document message ≡ None → IfSome sent (λ ms. IsEmpty new.open × SessionStays old new × OneReply (IsReplyTo null) ms × Logs ms)
  -- in a session, each text that the server knows is the client's, after each message
  pub told : old.phase ≡ Running → (note : Note) (texts : Texts) → TextTells message note → Agrees old texts → Agrees new (after old.client.encoding note texts)
  pub untold : ((note : Note) → TextTells message note → ⊥) → (texts : Texts) → Agrees old texts → Agrees new texts
  pub session : (note : Note) → TextTells message note → SessionStays old new
  -- a change closes and opens no document; other documents than the one that the message names stay as they were, and all do unless it is a notification about documents
  pub stays : (uri : List ℕ) (changes : List (Option Range × Text)) → TextTells message (Changed uri changes) → IfSome sent (λ ms. StaysOpen old new uri)
  pub others : IsSome (document message) → IfSome sent (λ ms. (uri : List ℕ) → (Names message uri → ⊥) → document_at new uri ≡ document_at old uri)
  pub all : IsQuiet message → IfSome sent (λ ms. new.open ≡ old.open)
  -- after `didOpen` and `didChange` in a session the text is known, or a message for the log names the document
  pub taken : old.phase ≡ Running → (note : Note) → TextTells message note → IfSome sent (λ ms. IsTaken old new (LogsOf ms) note)
  -- a request gets one reply, with its identifier, and a notification gets none
  pub replied : (id : Json) → Asks message id → IfSome sent (OneReply (IsReplyTo id))
  pub unasked : Notifies message → IfSome sent (All IsNotice)
  -- in a session, the content of the reply is that of the method and the parameters
  pub answered : old.phase ≡ Running → (id : Json) (method : List ℕ) (params : Json) → AsksFor message id method params → IfSome sent (OneReply (IsAnswer old id method params))
  -- the reply to `initialize` says what positions count from then on, or that it failed; no other message changes that
  pub started : old.phase ≡ New → (id : Json) → Starts message id → IfSome sent (OneReply (λ m. IsFailure id m ⊎ ((new.phase ≡ Running) × IsGreeting id new.client.encoding m)))
  pub client : (new.client ≡ old.client) ⊎ ((old.phase ≡ New) × (new.phase ≡ Running))
  -- `exit` ends the session, and no other message does
  pub exited : Exits message → IfSome sent (λ ms. new.phase ≡ Over (is_down old.phase))
  pub goes_on : (Exits message → ⊥) → is_over new.phase ≡ is_over old.phase

-- a document that is opened or changed is due, unless a message for the log names it
abbrev pub Marks : State → List ℕ → Sent → State → Type 0
Marks old message sent new = old.phase ≡ Running → (note : Note) → TextTells message note → IfSome sent (λ ms. MarksDue old new (LogsOf ms) note)

-- a server publishes the faults of the documents that are due
pub record Publishes (old : State) (sent : Sent) (new : State) : Type 0 where
  pub session : SessionStays old new
  pub documents : new.open ≡ old.open
  -- of each of them in order, which are then no longer due; without memory for them all stay due
  pub published : MatchOption sent (new ≡ old) (λ ms. PublishEach old old.due.items ms × (new.due.items ≡ []))

-- ---- a session

-- a step of a session: a message is taken, or faults are published; with the messages that are sent
pub data Step : Type 0 where
  Took : (message : List ℕ) → (sent : List (List ℕ)) → Step
  Published : (sent : List (List ℕ)) → Step

-- the text of a message; bytes that are no text are read as the empty one
abbrev pub IsText : List ℕ → List ℕ → Type 0
IsText message text = (IsUtf8 message × (text ≡ message)) ⊎ ((IsUtf8 message → ⊥) × (text ≡ []))

-- what is sent for the log where memory is short: that it is, and that the documents are to be opened again
abbrev pub short : List ℕ
short = codes "{\"jsonrpc\":\"2.0\",\"method\":\"window/logMessage\",\"params\":{\"type\":1,\"message\":\"kdl: out of memory\"}}"

abbrev pub lost : List ℕ
lost = codes "{\"jsonrpc\":\"2.0\",\"method\":\"window/logMessage\",\"params\":{\"type\":1,\"message\":\"kdl: out of memory: open the documents again\"}}"

-- where memory is short for a text, a request still gets one reply, an error with its identifier, and the log gets a message
abbrev pub IsLost : List ℕ → List (List ℕ) → Type 0
IsLost text sent =
    ((id : Json) × (m : String Global) × Asks text id × IsReplyFor id (Err Memory) m × (sent ≡ string_bytes m ∷ lost ∷ []))
    ⊎ (((id : Json) → Asks text id → ⊥) × (sent ≡ lost ∷ []))

-- messages are sent of which something is so, or others where memory is short
abbrev pub Sends : (Sent → Type 0) → (List (List ℕ) → Type 0) → List (List ℕ) → Type 0
Sends Is IsShort sent = ((ms : List (String Global)) × Is (Some ms) × (sent ≡ map string_bytes ms)) ⊎ (Is None × IsShort sent)

-- a step leads from what a server knows to what it knows afterwards
abbrev pub IsStep : Step → State → State → Type 0
IsStep (Took message sent) old new = (text : List ℕ) × IsText message text × Sends (λ ms. Takes old text ms new × Marks old text ms new) (IsLost text) sent
IsStep (Published sent) old new = Sends (λ ms. Publishes old ms new) (λ others. others ≡ short ∷ []) sent

-- steps lead there, one after the other
abbrev pub AreSteps : State → List Step → State → Type 0
AreSteps old [] new = old ≡ new
AreSteps old (step ∷ steps) new = (mid : State) × IsStep step old mid × AreSteps mid steps new

-- the last step publishes faults, if there is one
abbrev pub ArePublished : List Step → Type 0
ArePublished steps = (steps ≡ []) ⊎ ((front : List Step) × (sent : List (List ℕ)) × (steps ≡ front ++ Published sent ∷ []))

-- the messages that steps take
abbrev pub taken_in : List Step → List (List ℕ)
taken_in [] = []
taken_in (Took message sent ∷ steps) = message ∷ taken_in steps
taken_in (Published sent ∷ steps) = taken_in steps

-- what is written for a step
abbrev pub written_for : Step → List ℕ
written_for (Took message sent) = flat_map frame_of sent
written_for (Published sent) = flat_map frame_of sent

-- a server takes whole frames, all of them unless the session is over
pub record TakesFrames (old : State) (frames rest : List ℕ) (held holds : Option (List ℕ)) (new : State) : Type 0 where
  pub steps : List Step
  pub written : Appends held holds (flat_map written_for steps)
  pub taken : AreFrames frames (taken_in steps) rest
  pub led : AreSteps old steps new
  pub ended : IsTrue (is_over new.phase) ⊎ (frame_in rest ≡ None)

-- a server takes whole frames, and then publishes faults
pub record ServesFrames (old : State) (frames rest : List ℕ) (held holds : Option (List ℕ)) (new : State) : Type 0 where
  pub front : List Step
  pub sent : List (List ℕ)
  pub written : Appends held holds (flat_map written_for (front ++ Published sent ∷ []))
  pub taken : AreFrames frames (taken_in front) rest
  pub led : AreSteps old (front ++ Published sent ∷ []) new
  pub ended : IsTrue (is_over new.phase) ⊎ (frame_in rest ≡ None)

-- a server knows nothing yet
abbrev pub IsNew : State → Type 0
IsNew s = (s.phase ≡ New) × (s.client ≡ record { encoding = Utf16; has_related = false }) × IsEmpty s.open × (s.due.items ≡ [])

-- why a session ends: `exit` came, perhaps after `shutdown`; or before `exit`, after the last whole frame, bytes came that are
-- no frame, or the input ended, there or in a frame
abbrev pub IsEnd : End → State → List ℕ → Option (List ℕ) → Type 0
IsEnd (Exit was_down) s rest left = s.phase ≡ Over was_down
IsEnd NoFrame s rest left = (is_over s.phase ≡ false) × IsTrue (is_bad rest)
IsEnd EndOfInput s rest left = (is_over s.phase ≡ false) × IsAtEnd left × (rest ≡ [])
IsEnd EndInFrame s rest left = (is_over s.phase ≡ false) × IsAtEnd left × (rest ≢ []) × (frame_in rest ≡ None)

-- a server takes the frames that it reads, in order, and writes what it sends for them, in order, up to the end of the session
pub record Serves (had left held holds : Option (List ℕ)) (end : End) : Type 0 where
  pub bytes : List ℕ
  pub rest : List ℕ
  pub steps : List Step
  pub first : State
  pub last : State
  pub starts : IsNew first
  pub read : Consumes had left bytes
  pub taken : AreFrames bytes (taken_in steps) rest
  pub led : AreSteps first steps last
  pub written : Appends held holds (flat_map written_for steps)
  pub published : ArePublished steps
  pub ended : IsEnd end last rest left
