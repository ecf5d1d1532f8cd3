-- Replies to requests in a session.
use Rattle.std.proofs.Common.{arith, ◌≡◌, ◌<◌, ℕ, List, Err, ap, inl, length, refl}
use Rattle.json.specs.Json.{Json}
use Rattle.lsp.specs.Contents.{IsContent}
use Rattle.lsp.specs.Replies.{Content}
use Rattle.lsp.specs.declared.write.Wrong.TheVariants.{Memory}
use Rattle.lsp_documents.specs.declared.state.State.{State}

-- memory is short
pub short_content : (s : State) (method : List ℕ) (params : Json) → IsContent s method params (Err Memory)
short_content s method params = record { formatting = λ e. inl refl; range_formatting = λ e. inl refl }

-- the method is none about a document
pub other_content : (s : State) (method : List ℕ) (params : Json) (content : Content) → length method < 23 → IsContent s method params content
other_content s method params content brief = record {
  formatting = λ e. (let l : length method ≡ 23 = ap length e in absurd (omega (arith, l, brief)));
  range_formatting = λ e. (let l : length method ≡ 28 = ap length e in absurd (omega (arith, l, brief)));
}
