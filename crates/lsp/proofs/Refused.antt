-- Replies to requests to format that are refused.
use Rattle.std.proofs.Common.{arith, ◌≡◌, ◌++◌, ◌∷◌, ◌∙◌, [], ℕ, List, Option, None, Some, Result, Ok, Err, String, Global, IsSomeAnd, MatchResult, ap, chars, codes, get_or, inl, inr, min, refl, string_bytes, subst, sym}
use Rattle.std.proofs.lemmas.List.{append_cancel_left, append_cancel_right}
use Rattle.json.specs.Find.{get}
use Rattle.json.specs.Json as json
use Rattle.json.specs.Json.{Json, no_items}
use Rattle.json.specs.Print.{print, print_from, escape_byte}
use Rattle.json.specs.Tree.{json_tokens}
use Rattle.lsp.specs.Contents.{IsAbout, IsAnswer, IsFormatted, text_in}
use Rattle.lsp.specs.Formatting.{HasSize, IsFormatting, IsIndent, IsLaidOut}
use Rattle.lsp.specs.Messages.{AsksFor}
use Rattle.lsp.specs.Replies.{Content, IsReplyFor, IsReplyWith, error_code, error_json, reply_json}
use Rattle.lsp.specs.Turns.{Takes}
use Rattle.lsp.specs.declared.write.Wrong.{Wrong}
use Rattle.lsp_documents.specs.Notes.{IsNatural, IsNumber}
use Rattle.lsp_documents.specs.declared.state.Phase.TheVariants.{Running}
use Rattle.lsp_documents.specs.declared.state.State.{State}
use Rattle.lsp_text.specs.declared.position.Encoding.{Encoding}
use Rattle.lsp_documents.proofs.Values.{one_natural}
use Rattle.lsp.proofs.Edits.{some_edits}
use Rattle.lsp.proofs.Replying.{reply_front, reply_print}
use Rattle.lsp.proofs.Sending.{alone}

whole : (name : List ℕ) (j : Json) (m : String Global) → IsReplyWith name j (json.string (codes "a")) m → string_bytes m ≡ print (reply_front (json.string (codes "a")) name) ++ (print (json_tokens j) ++ 125 ∷ [])
whole name j m (i, is, (numbers, e)) =
    let P : Json → Type 0 = λ u. string_bytes m ≡ print (json_tokens (reply_json u name j)) in subst P is e ∙ reply_print (json.string (codes "a")) name j

-- the result of a reply is one
same_result : (i j : Json) (m : String Global) → IsReplyWith (codes "result") i (json.string (codes "a")) m → IsReplyWith (codes "result") j (json.string (codes "a")) m → print (json_tokens i) ≡ print (json_tokens j)
same_result i j m p q =
    append_cancel_right (print (json_tokens i)) (print (json_tokens j)) (125 ∷ [])
    (append_cancel_left (print (reply_front (json.string (codes "a")) (codes "result"))) _ _ (sym (whole (codes "result") i m p) ∙ whole (codes "result") j m q))

result_byte : (j : Json) (m : String Global) → IsReplyWith (codes "result") j (json.string (codes "a")) m → get_or (string_bytes m) 27 0 ≡ 114
unfolding print_from escape_byte
result_byte j m r = ap (λ b. get_or b 27 0) (whole (codes "result") j m r)

error_byte : (j : Json) (m : String Global) → IsReplyWith (codes "error") j (json.string (codes "a")) m → get_or (string_bytes m) 27 0 ≡ 101
unfolding print_from escape_byte
error_byte j m r = ap (λ b. get_or b 27 0) (whole (codes "error") j m r)

none_print : print (json_tokens (json.array no_items)) ≡ codes "[]"
unfolding print_from
none_print = refl

-- no edits are the formatting of no text whose layout differs
pub no_edits : (e : Encoding) (indent : Option ℕ) (text : List ℕ) → ((new : List ℕ) → IsLaidOut indent text new → chars text ≡ chars new → ⊥) → IsFormatting e indent text (codes "[]") → ⊥
unfolding print_from
no_edits e indent text other (inl n) = let h : 91 ≡ 110 = ap (λ b. get_or b 0 0) n.1 in absurd (omega (arith, h))
no_edits e indent text other (inr (new, laid, edits)) = some_edits e text new (other new laid) edits

no_content : (s : State) (params : Json) (text : List ℕ) (content : Content) (m : String Global) → text_in s params ≡ Ok text
    → ((indent : Option ℕ) (new : List ℕ) → IsLaidOut indent text new → chars text ≡ chars new → ⊥)
    → IsAbout s params (IsFormatted s.client.encoding params) content → IsReplyFor (json.string (codes "a")) content m → IsReplyWith (codes "result") (json.array no_items) (json.string (codes "a")) m → ⊥
no_content s params text (Err wrong) m is other about reply empty = let h : 114 ≡ 101 = sym (result_byte (json.array no_items) m empty) ∙ error_byte (error_json (error_code wrong) reply.0) m reply.1 in absurd (omega (arith, h))
no_content s params text (Ok out) m is other (inl short) reply empty = absurd (cc (short))
no_content s params text (Ok out) m is other (inr about) reply empty =
    let P : Result (List ℕ) Wrong → Type 0 = λ r. MatchResult r (λ t. IsFormatted s.client.encoding params t (Ok out)) (λ w. Ok out ≡ Err w) in
    let f : IsFormatted s.client.encoding params text (Ok out) = subst P is about in
    no_edits s.client.encoding f.0 text (other f.0) (subst (λ b. IsFormatting s.client.encoding f.0 text b) (reply.1.1 ∙ same_result reply.0 (json.array no_items) m reply.2 empty ∙ none_print) f.2)

-- a server does not reply so to a request to format a text whose layout differs
pub not_unformatted : (old new : State) (message text : List ℕ) (params : Json) (m : String Global) → old.phase ≡ Running → AsksFor message (json.string (codes "a")) (codes "textDocument/formatting") params
    → text_in old params ≡ Ok text → ((indent : Option ℕ) (laid : List ℕ) → IsLaidOut indent text laid → chars text ≡ chars laid → ⊥)
    → IsReplyWith (codes "result") (json.array no_items) (json.string (codes "a")) m → Takes old message (Some (m ∷ [])) new → ⊥
not_unformatted old new message text params m running asks is other empty takes =
    let id = json.string (codes "a") in
    let method = codes "textDocument/formatting" in
    let a = alone (IsAnswer old id method params) m (takes.answered running id method params asks) in
    no_content old params text a.0 m is other (a.1.formatting refl) a.2 empty

-- ---- a request has one indent

one_of : {A B : Type 0} (o : Option A) (P Q : A → Type 0) (x y : B) → ((a : A) → P a → Q a → x ≡ y) → IsSomeAnd o P → IsSomeAnd o Q → x ≡ y
one_of None P Q x y each p q = elim p [ ]
one_of (Some a) P Q x y each p q = each a p q

one_number : (name : List ℕ) (j : Json) (m n : ℕ) → IsNumber name j m → IsNumber name j n → m ≡ n
one_number name j m n = one_of _ (λ s. IsNatural s m) (λ s. IsNatural s n) m n (λ s p q. one_natural s m n p q)

one_size : (params : Json) (m n : ℕ) → HasSize params m → HasSize params n → m ≡ n
one_size params m n = one_of (get (codes "options") params) (λ j. IsNumber (codes "tabSize") j m) (λ j. IsNumber (codes "tabSize") j n) m n (λ j. one_number (codes "tabSize") j m n)

pub one_indent : (params : Json) (i j : Option ℕ) → IsIndent params i → IsIndent params j → i ≡ j
one_indent params None None a b = refl
one_indent params None (Some n) a b = absurd (b.0 a)
one_indent params (Some m) None a b = absurd (a.0 b)
one_indent params (Some m) (Some n) (p, inl (size, has, is)) (q, inl (other, holds, so)) = ap Some (is ∙ ap (λ k. min k 64) (one_size params size other has holds) ∙ sym so)
one_indent params (Some m) (Some n) (p, inl (size, has, is)) (q, inr (none, so)) = absurd (none size has)
one_indent params (Some m) (Some n) (p, inr (none, is)) (q, inl (size, has, so)) = absurd (none size has)
one_indent params (Some m) (Some n) (p, inr (none, is)) (q, inr (other, so)) = ap Some (is ∙ sym so)
