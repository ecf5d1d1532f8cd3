-- Messages of the server.
use Rattle.std.specs.Prelude.{◌≡◌, ◌++◌, ◌∷◌, [], ℕ, ℤ, List, Contains, Result, Ok, Err, String, All, codes, neg_ℤ, pos, string_bytes}
use Rattle.std.specs.Fmt.{signed_decimal}
use Rattle.std.specs.Global.{Global}
use Rattle.json.specs.Json as json
use Rattle.json.specs.Json.{Json, Members, member, no_members, object}
use Rattle.json.specs.Print.{IsNumber, print}
use Rattle.json.specs.Token.{Token, begin_object, end_object, key, number, string}
use Rattle.json.specs.Tree.{HasNumbers, json_tokens}
use Rattle.json.specs.Written.{Written}
use Rattle.lsp.specs.Messages.{encoding_name}
use Rattle.lsp.specs.declared.write.Wrong.{Wrong}
use Rattle.lsp.specs.declared.write.Wrong.TheVariants.{Parse, Invalid, Method, Params, Memory, Early, Unknown}
use Rattle.lsp_text.specs.declared.position.Encoding.{Encoding}

-- a writer has written these tokens
abbrev pub IsWritten : Written → List Token → Type 0
IsWritten out ts = (out.before ≡ []) × (out.tokens ≡ ts)

-- the tokens with which each message begins, and those of a notification up to its parameters
abbrev pub message_head : List Token
message_head = begin_object ∷ key (codes "jsonrpc") ∷ string (codes "2.0") ∷ []

abbrev pub notice_head : List ℕ → List Token
notice_head method = message_head ++ key (codes "method") ∷ string method ∷ key (codes "params") ∷ []

-- a text is a value as JSON, and nothing else
abbrev pub IsJson : Json → List ℕ → Type 0
IsJson j text = HasNumbers j × (text ≡ print (json_tokens j))

-- a text is some value as JSON
abbrev pub IsSomeJson : String Global → Type 0
IsSomeJson text = (j : Json) × IsJson j (string_bytes text)

-- the identifier in a reply: the same number or string, or null
abbrev pub IsLiteral : List ℕ → Json → Type 0
IsLiteral s i = IsNumber s → i ≡ json.number s

abbrev pub IsNumberId : Json → Json → Type 0
IsNumberId (json.number s) i = IsLiteral s i
IsNumberId _ i = i ≡ json.null

abbrev pub IsId : Json → Json → Type 0
IsId (json.string s) i = i ≡ json.string s
IsId id i = IsNumberId id i

-- a reply: an identifier, and a member of some name
abbrev pub reply_json : Json → List ℕ → Json → Json
reply_json i name j = object (member (codes "jsonrpc") (json.string (codes "2.0")) (member (codes "id") i (member name j no_members)))

-- a message is a reply to the request of an identifier, with a member of that name and value
abbrev pub IsReplyWith : List ℕ → Json → Json → String Global → Type 0
IsReplyWith name j id m = (i : Json) × IsId id i × IsJson (reply_json i name j) (string_bytes m)

-- the number of what is wrong, as `ErrorCodes` and `LSPErrorCodes` of the protocol
abbrev pub error_code : Wrong → ℤ
error_code Parse = neg_ℤ (pos 32700)
error_code Invalid = neg_ℤ (pos 32600)
error_code Method = neg_ℤ (pos 32601)
error_code Params = neg_ℤ (pos 32602)
error_code Memory = neg_ℤ (pos 32603)
error_code Early = neg_ℤ (pos 32002)
error_code Unknown = neg_ℤ (pos 32803)

-- an error as JSON: its number, and what people read
abbrev pub error_json : ℤ → List ℕ → Json
error_json code text = object (member (codes "code") (json.number (signed_decimal code)) (member (codes "message") (json.string text) no_members))

-- what a server returns for a request: a result as JSON, or what is wrong
abbrev pub Content : Type 0
Content = Result (String Global) Wrong

-- a message is the reply with that content: with the result, or with the error
abbrev pub IsReplyFor : Json → Content → String Global → Type 0
IsReplyFor id (Ok out) m = (j : Json) × IsJson j (string_bytes out) × IsReplyWith (codes "result") j id m
IsReplyFor id (Err wrong) m = (text : List ℕ) × IsReplyWith (codes "error") (error_json (error_code wrong) text) id m

-- a message is a reply to the request: with a result, or an error
abbrev pub IsReplyTo : Json → String Global → Type 0
IsReplyTo id m = (content : Content) × IsReplyFor id content m

abbrev pub IsFailure : Json → String Global → Type 0
IsFailure id m = (wrong : Wrong) × IsReplyFor id (Err wrong) m

-- the result of `initialize`: what positions count, what else the server can do, and its name
abbrev pub greeting_json : Encoding → Members → Members → Json
greeting_json e more rest = object (member (codes "capabilities") (object (member (codes "positionEncoding") (json.string (encoding_name e)) more)) rest)

-- a message is the reply to `initialize`, with the encoding
abbrev pub IsGreeting : Json → Encoding → String Global → Type 0
IsGreeting id e m = (more : Members) × (rest : Members) × IsReplyWith (codes "result") (greeting_json e more rest) id m

-- a message is a notification; it is one for the log of the client, with a text, or with one that names a URI
abbrev pub IsNotice : String Global → Type 0
IsNotice m = (method : List ℕ) × (more : List Token) × (string_bytes m ≡ print (notice_head method ++ more))

abbrev pub IsLogWith : List ℕ → String Global → Type 0
IsLogWith text m = (n : List ℕ) × (string_bytes m ≡ print (notice_head (codes "window/logMessage") ++ begin_object ∷ key (codes "type") ∷ number n ∷ key (codes "message") ∷ string text ∷ end_object ∷ end_object ∷ []))

abbrev pub IsLog : String Global → Type 0
IsLog m = (text : List ℕ) × IsLogWith text m

abbrev pub IsLogOf : List ℕ → String Global → Type 0
IsLogOf uri m = (before after : List ℕ) × IsLogWith (before ++ uri ++ after) m

-- one of the messages is for the log; one is for the log, and names a URI
unfoldable pub Logs : List (String Global) → Type 0
Logs ms = (m : String Global) × Contains ms m × IsLog m

unfoldable pub LogsOf : List (String Global) → List ℕ → Type 0
LogsOf ms uri = (m : String Global) × Contains ms m × IsLogOf uri m

-- one of the messages is a reply, of which something is so, and all others are notifications
unfoldable pub OneReply : (String Global → Type 0) → List (String Global) → Type 0
OneReply Is ms = (before : List (String Global)) × (m : String Global) × (after : List (String Global)) × (ms ≡ before ++ m ∷ after) × Is m × All IsNotice (before ++ after)
