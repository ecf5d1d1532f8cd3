-- What a server returns for a request in a session.
use Rattle.std.specs.Prelude.{◌≡◌, ◌⊎◌, ℕ, List, Option, None, Some, Result, Err, MatchResult, IsOkAnd, IsSomeAnd, String, codes, ok_or, option_and_then, option_map, string_bytes}
use Rattle.std.specs.Global.{Global}
use Rattle.json.specs.Find.{get}
use Rattle.json.specs.Json.{Json}
use Rattle.lsp.specs.Formatting.{IsFormatting, IsIndent, IsLinesFormatting}
use Rattle.lsp.specs.Replies.{Content, IsReplyFor}
use Rattle.lsp.specs.declared.write.Wrong.{Wrong}
use Rattle.lsp.specs.declared.write.Wrong.TheVariants.{Params, Memory, Unknown}
use Rattle.lsp_documents.specs.Notes.{IsRange, uri_of}
use Rattle.lsp_documents.specs.States.{document_at}
use Rattle.lsp_documents.specs.declared.state.Document.{Document}
use Rattle.lsp_documents.specs.declared.state.State.{State}
use Rattle.lsp_text.specs.Lines.{lines_of}
use Rattle.lsp_text.specs.declared.position.Encoding.{Encoding}
use Rattle.lsp_text.specs.declared.position.Range.{Range}

-- the text of a document, or what is wrong: the document is not open, or its text is not known
abbrev pub text_of : Option Document → Result (List ℕ) Wrong
text_of None = Err Params
text_of (Some d) = ok_or (option_map string_bytes d.text) Unknown

-- the same of the document that parameters name
abbrev pub text_in : State → Json → Result (List ℕ) Wrong
text_in s params = text_of (option_and_then (document_at s) (uri_of params))

-- the content for a request about a document: that memory is short, what is wrong with its text, or what is so of the text
abbrev pub IsAbout : State → Json → (List ℕ → Content → Type 0) → Content → Type 0
IsAbout s params IsOf content = (content ≡ Err Memory) ⊎ MatchResult (text_in s params) (λ text. IsOf text content) (λ wrong. content ≡ Err wrong)

-- the content is the edits that lay a text out, with the indent that parameters ask for
abbrev pub IsFormatted : Encoding → Json → List ℕ → Content → Type 0
IsFormatted e params text content = IsOkAnd content (λ out. (indent : Option ℕ) × IsIndent params indent × IsFormatting e indent text (string_bytes out))

-- parameters have the range
abbrev pub HasRange : Json → Range → Type 0
HasRange params range = IsSomeAnd (get (codes "range") params) (λ j. IsRange j range)

-- the content is the same edits, within the lines of the range that parameters have; or parameters have none
abbrev pub IsRangeFormatted : Encoding → Json → List ℕ → Content → Type 0
IsRangeFormatted e params text content =
    ((range : Range) × HasRange params range × IsOkAnd content (λ out. (indent : Option ℕ) × IsIndent params indent × IsLinesFormatting e indent (lines_of range) text (string_bytes out)))
    ⊎ (((range : Range) → HasRange params range → ⊥) × (content ≡ Err Params))

-- the content for a request of a method
pub record IsContent (s : State) (method : List ℕ) (params : Json) (content : Content) : Type 0 where
  pub formatting : method ≡ codes "textDocument/formatting" → IsAbout s params (IsFormatted s.client.encoding params) content
  pub range_formatting : method ≡ codes "textDocument/rangeFormatting" → IsAbout s params (IsRangeFormatted s.client.encoding params) content

-- a message is the reply to a request
abbrev pub IsAnswer : State → Json → List ℕ → Json → String Global → Type 0
IsAnswer s id method params m = (content : Content) × IsContent s method params content × IsReplyFor id content m
