-- Messages of the server.
use Rattle.std.proofs.Common.{arith, ◌≡◌, ◌++◌, ◌∷◌, [], ◌∙◌, ℕ, Bool, List, Option, Some, ap, codes, false, fold, max, refl, sym, true, unwrap_or}
use Rattle.std.proofs.lemmas.List.{append_assoc}
use Rattle.json.proofs.Printed.Tokens.{print_from-append, tokens-print}
use Rattle.json.proofs.Printed.Trees.{ArePrintable-json_tokens, value-json_tokens}
use Rattle.json.specs.Json.{Json, value}
use Rattle.json.specs.Lex.{tokens}
use Rattle.json.specs.Print.{ends, print, print_from}
use Rattle.json.specs.Token.{Token, begin_object, end_object, key, number, string}
use Rattle.json.specs.Tree.{depth, json_tokens}
use Rattle.lsp.specs.Replies.{IsJson, message_head, notice_head, reply_json}

-- a text is one value
pub one_json : (i j : Json) (text : List ℕ) → IsJson i text → IsJson j text → i ≡ j
one_json i j text p q =
    let d = max (depth i) (depth j) in
    let back : json_tokens i ≡ json_tokens j =
    sym (tokens-print (json_tokens i) (ArePrintable-json_tokens i p.0)) ∙ ap tokens (sym p.1 ∙ q.1) ∙ tokens-print (json_tokens j) (ArePrintable-json_tokens j q.0) in
    let read : Some (i, []) ≡ Some (j, []) = sym (value-json_tokens i d [] (omega arith)) ∙ ap (λ ts. value d (ts ++ [])) back ∙ value-json_tokens j d [] (omega arith) in
    ap (λ (o : Option (Json × List Token)). (unwrap_or o (i, [])).0) read

-- a reply up to its member
abbrev pub reply_front : Json → List ℕ → List Token
reply_front i name = message_head ++ key (codes "id") ∷ (json_tokens i ++ key name ∷ [])

-- the tokens of a reply
reply_split : (i : Json) (name : List ℕ) (j : Json) → json_tokens (reply_json i name j) ≡ reply_front i name ++ (json_tokens j ++ end_object ∷ [])
reply_split i name j = ap (λ x. message_head ++ key (codes "id") ∷ x) (sym (append_assoc (json_tokens i) (key name ∷ []) (json_tokens j ++ end_object ∷ [])))

-- those of its front, its content and its end, one after the other
pub reply_tokens : (ts us vs ws xs : List Token) (name : List ℕ) (i j : Json) → ts ≡ message_head → us ≡ ts ++ key (codes "id") ∷ json_tokens i → vs ≡ us ++ key name ∷ []
    → ws ≡ vs ++ json_tokens j → xs ≡ ws ++ end_object ∷ [] → xs ≡ json_tokens (reply_json i name j)
reply_tokens ts us vs ws xs name i j h k l p q =
    let front : vs ≡ reply_front i name = l ∙ ap (λ x. x ++ key name ∷ []) (k ∙ ap (λ x. x ++ key (codes "id") ∷ json_tokens i) h) in
    q ∙ ap (λ x. x ++ end_object ∷ []) (p ∙ ap (λ x. x ++ json_tokens j) front) ∙ append_assoc (reply_front i name) (json_tokens j) (end_object ∷ []) ∙ sym (reply_split i name j)

-- the bytes of a bracket
pub bracket : (c : Bool) → print_from c (end_object ∷ []) ≡ 125 ∷ []
unfolding print_from
bracket true = refl
bracket false = refl

after_key : (c : Bool) (ts : List Token) (name : List ℕ) → fold (λ _ u. ends u) c (ts ++ key name ∷ []) ≡ false
after_key c [] name = refl
after_key c (t ∷ ts) name = after_key (ends t) ts name

-- the bytes of a reply
pub reply_print : (i : Json) (name : List ℕ) (j : Json) → print (json_tokens (reply_json i name j)) ≡ print (reply_front i name) ++ (print (json_tokens j) ++ 125 ∷ [])
reply_print i name j =
    let rest = json_tokens j ++ end_object ∷ [] in
    let split = print_from-append false (reply_front i name) rest in
    let at_key = after_key false (json_tokens i) name in
    ap print (reply_split i name j) ∙ split ∙ ap (λ c. print (reply_front i name) ++ print_from c rest) at_key
    ∙ ap (λ x. print (reply_front i name) ++ x) (print_from-append false (json_tokens j) (end_object ∷ []) ∙ ap (λ x. print (json_tokens j) ++ x) (bracket _))

-- the bytes of a reply whose front, content and end are written one after the other
pub reply_bytes : (ts us vs : List Token) (name : List ℕ) (i j : Json) (a b c d e : List ℕ) → ts ≡ message_head → us ≡ ts ++ key (codes "id") ∷ json_tokens i → vs ≡ us ++ key name ∷ []
    → a ≡ print vs → c ≡ print (json_tokens j) → b ≡ a ++ c → e ≡ 125 ∷ [] → d ≡ b ++ e → d ≡ print (json_tokens (reply_json i name j))
reply_bytes ts us vs name i j a b c d e h k l p is q bracket r =
    let front : vs ≡ reply_front i name = l ∙ ap (λ x. x ++ key name ∷ []) (k ∙ ap (λ x. x ++ key (codes "id") ∷ json_tokens i) h) in
    r ∙ ap (λ x. x ++ e) q ∙ append_assoc a c e ∙ ap (λ x. x ++ (c ++ e)) (p ∙ ap print front)
    ∙ ap (λ x. print (reply_front i name) ++ (x ++ e)) is ∙ ap (λ x. print (reply_front i name) ++ (print (json_tokens j) ++ x)) bracket ∙ sym (reply_print i name j)

-- the tokens of a message for the log
pub log_tokens : (ts us vs ws xs : List Token) (n text : List ℕ) → ts ≡ notice_head (codes "window/logMessage") → us ≡ ts ++ begin_object ∷ [] → vs ≡ us ++ key (codes "type") ∷ number n ∷ []
    → ws ≡ vs ++ key (codes "message") ∷ string text ∷ [] → xs ≡ ws ++ end_object ∷ []
    → xs ++ end_object ∷ [] ≡ notice_head (codes "window/logMessage") ++ begin_object ∷ key (codes "type") ∷ number n ∷ key (codes "message") ∷ string text ∷ end_object ∷ end_object ∷ []
log_tokens ts us vs ws xs n text h i j k l =
    ap (λ x. x ++ end_object ∷ []) (l ∙ ap (λ x. x ++ end_object ∷ []) (k ∙ ap (λ x. x ++ key (codes "message") ∷ string text ∷ []) (j ∙ ap (λ x. x ++ key (codes "type") ∷ number n ∷ []) (i ∙ ap (λ x. x ++ begin_object ∷ []) h))))
