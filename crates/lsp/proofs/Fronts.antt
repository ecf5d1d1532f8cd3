-- The bytes with which messages of the server begin.
use Rattle.std.proofs.Common.{arith, ◌≡◌, ◌∷◌, ◌++◌, ◌∙◌, [], ℕ, ℤ, List, Option, Some, Ok, Err, String, Global, ap, codes, false, get_or, length, max, string_bytes, subst, sym, unwrap_or}
use Rattle.std.proofs.lemmas.List.{append-nil}
use Rattle.json.proofs.Printed.Tokens.{ArePrintable-push, print_from-append, tokens-print}
use Rattle.json.proofs.Printed.Trees.{ArePrintable-json_tokens, value-json_tokens}
use Rattle.json.specs.Json as json
use Rattle.json.specs.Json.{Json, value}
use Rattle.json.specs.Lex.{tokens}
use Rattle.json.specs.Print.{print, print_from, escape_byte}
use Rattle.json.specs.Token.{Token, end_object}
use Rattle.json.specs.Tree.{HasNumbers, depth, json_tokens}
use Rattle.lsp.specs.Faults.{IsFaultsNotice}
use Rattle.lsp.specs.Replies.{IsGreeting, IsNotice, IsReplyTo, IsReplyWith, error_code, error_json, greeting_json, reply_json}
use Rattle.lsp_text.specs.declared.position.Encoding.{Encoding}
use Rattle.lsp_text.specs.declared.position.Encoding.TheVariants.{Utf8, Utf32}
use Rattle.lsp.proofs.Replying.{bracket}

-- what is so of each reply with a result, and with an error
of_reply : (id : Json) (m : String Global) (P : Type 0) → ((name : List ℕ) (j : Json) → IsReplyWith name j id m → P) → IsReplyTo id m → P
of_reply id m P so (Ok out, (j, is, r)) = so (codes "result") j r
of_reply id m P so (Err wrong, (text, r)) = so (codes "error") (error_json (error_code wrong) text) r

-- the first letter of `id` in a reply
with_byte : (id : Json) (m : String Global) (name : List ℕ) (j : Json) → IsReplyWith name j id m → get_or (string_bytes m) 18 0 ≡ 105
unfolding print_from escape_byte
with_byte id m name j r = ap (λ b. get_or b 18 0) r.2.1

pub reply_byte : (id : Json) (m : String Global) → IsReplyTo id m → get_or (string_bytes m) 18 0 ≡ 105
reply_byte id m = of_reply id m _ (with_byte id m)

-- that of `method` in a notification
pub notice_byte : (m : String Global) → IsNotice m → get_or (string_bytes m) 18 0 ≡ 109
unfolding print_from escape_byte
notice_byte m (method, more, is) = ap (λ b. get_or b 18 0) is

-- the letter of an identifier
with_a : (m : String Global) (name : List ℕ) (j : Json) → IsReplyWith name j (json.string (codes "a")) m → get_or (string_bytes m) 23 0 ≡ 97
unfolding print_from escape_byte
with_a m name j (i, is, (numbers, e)) = let P : Json → Type 0 = λ u. string_bytes m ≡ print (json_tokens (reply_json u name j)) in ap (λ b. get_or b 23 0) (subst P is e)

pub reply_a : (m : String Global) → IsReplyTo (json.string (codes "a")) m → get_or (string_bytes m) 23 0 ≡ 97
reply_a m = of_reply (json.string (codes "a")) m _ (with_a m)

with_b : (m : String Global) (name : List ℕ) (j : Json) → IsReplyWith name j (json.string (codes "b")) m → get_or (string_bytes m) 23 0 ≡ 98
unfolding print_from escape_byte
with_b m name j (i, is, (numbers, e)) = let P : Json → Type 0 = λ u. string_bytes m ≡ print (json_tokens (reply_json u name j)) in ap (λ b. get_or b 23 0) (subst P is e)

pub reply_b : (m : String Global) → IsReplyTo (json.string (codes "b")) m → get_or (string_bytes m) 23 0 ≡ 98
reply_b m = of_reply (json.string (codes "b")) m _ (with_b m)

-- the number in the name of the encoding of a reply to `initialize`
pub greeting_8 : (m : String Global) → IsGreeting (json.string (codes "a")) Utf8 m → get_or (string_bytes m) 76 0 ≡ 56
unfolding print_from escape_byte
greeting_8 m (more, rest, (i, is, (numbers, e))) =
    let P : Json → Type 0 = λ u. string_bytes m ≡ print (json_tokens (reply_json u (codes "result") (greeting_json Utf8 more rest))) in ap (λ b. get_or b 76 0) (subst P is e)

pub greeting_32 : (m : String Global) → IsGreeting (json.string (codes "a")) Utf32 m → get_or (string_bytes m) 76 0 ≡ 51
unfolding print_from escape_byte
greeting_32 m (more, rest, (i, is, (numbers, e))) =
    let P : Json → Type 0 = λ u. string_bytes m ≡ print (json_tokens (reply_json u (codes "result") (greeting_json Utf32 more rest))) in ap (λ b. get_or b 76 0) (subst P is e)

-- ---- a value without its last bracket

closed : (ts : List Token) → print (ts ++ end_object ∷ []) ≡ print ts ++ 125 ∷ []
closed ts = print_from-append false ts (end_object ∷ []) ∙ ap (λ x. print ts ++ x) (bracket _)

uncut : (i j : Json) → HasNumbers i → HasNumbers j → print (json_tokens i) ≡ print (json_tokens j) ++ 125 ∷ [] → ⊥
uncut i j h k e =
    let d = max (depth i) (depth j) in
    let back : json_tokens i ≡ json_tokens j ++ end_object ∷ [] =
    sym (tokens-print (json_tokens i) (ArePrintable-json_tokens i h)) ∙ ap tokens (e ∙ sym (closed (json_tokens j)))
    ∙ tokens-print (json_tokens j ++ end_object ∷ []) (ArePrintable-push (json_tokens j) end_object (ArePrintable-json_tokens j k) tt) in
    let read : Some (i, []) ≡ Some (j, end_object ∷ []) =
    sym (value-json_tokens i d [] (omega arith)) ∙ ap (value d) (append-nil (json_tokens i) ∙ back) ∙ value-json_tokens j d (end_object ∷ []) (omega arith) in
    let h : 0 ≡ 1 = ap (λ (o : Option (Json × List Token)). length (unwrap_or o (i, [])).1) read in absurd (omega (arith, h))

pub reply_uncut : (id : Json) (m n : String Global) → string_bytes m ≡ string_bytes n ++ 125 ∷ [] → IsReplyTo id m → IsReplyTo id n → ⊥
reply_uncut id m n cut r =
    of_reply id n ⊥ (λ name j s. of_reply id m ⊥ (λ other k t. uncut (reply_json t.0 other k) (reply_json s.0 name j) t.2.0 s.2.0 (sym t.2.1 ∙ cut ∙ ap (λ x. x ++ 125 ∷ []) s.2.1)) r)

-- the letter of a URI whose faults are published
pub notice_a : (e : Encoding) (v : Option ℤ) (text : List ℕ) (m : String Global) → IsFaultsNotice e (codes "a") v text m → get_or (string_bytes m) 77 0 ≡ 97
unfolding print_from escape_byte
notice_a e v text m n = ap (λ b. get_or b 77 0) n.4

pub notice_b : (e : Encoding) (v : Option ℤ) (text : List ℕ) (m : String Global) → IsFaultsNotice e (codes "b") v text m → get_or (string_bytes m) 77 0 ≡ 98
unfolding print_from escape_byte
notice_b e v text m n = ap (λ b. get_or b 77 0) n.4
