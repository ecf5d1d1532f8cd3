use Rattle.std.proofs.Common.{◌≡◌, ◌++◌, ◌∷◌, ◌∙◌, [], ℕ, ℤ, List, ap, codes, of_z, refl, to_z, w64}
use Rattle.std.proofs.lemmas.Result.{on_ok_weaker}
use Rattle.std.specs.Fmt.{signed_decimal}
use Rattle.json.specs.Token.{Token, begin_object, end_object, key, number, string}
use Rattle.json.specs.Tree.{json_tokens}
use Rattle.lsp.specs.Replies.{error_code, error_json}
use Rattle.lsp.specs.declared.write.Wrong.{Wrong}
use Rattle.lsp.specs.declared.write.Wrong.TheVariants.{Parse, Invalid, Method, Params, Memory, Early, Unknown}
use Rattle.lsp.proofs.Growing.{next}
use Rattle.lsp.proofs.write.Wrong.put.Goals as goal

-- the tokens of an error, one after the other
written : (ss ts us vs ws xs : List Token) (code : ℤ) (text : List ℕ) → ts ≡ ss ++ begin_object ∷ [] → us ≡ ts ++ key (codes "code") ∷ [] → vs ≡ us ++ number (signed_decimal code) ∷ []
    → ws ≡ vs ++ key (codes "message") ∷ string text ∷ [] → xs ≡ ws ++ end_object ∷ [] → xs ≡ ss ++ json_tokens (error_json code text)
written ss ts us vs ws xs code text h i j k l =
    let a = begin_object ∷ [] in
    let b = next ss ts us a (key (codes "code") ∷ []) h i in
    let c = next ss us vs (a ++ key (codes "code") ∷ []) (number (signed_decimal code) ∷ []) b j in
    let d = next ss vs ws (a ++ key (codes "code") ∷ number (signed_decimal code) ∷ []) (key (codes "message") ∷ string text ∷ []) c k in
    next ss ws xs (a ++ key (codes "code") ∷ number (signed_decimal code) ∷ key (codes "message") ∷ string text ∷ []) (end_object ∷ []) d l

-- a number of 64 bits keeps that of an error
kept : (w : Wrong) → to_z w64 (of_z w64 (error_code w)) ≡ error_code w
kept Parse = refl
kept Invalid = refl
kept Method = refl
kept Params = refl
kept Memory = refl
kept Early = refl
kept Unknown = refl

pub returns-clause-before : goal.returns-clause-before
returns-clause-before c =
    on_ok_weaker c.end_object.result
    (λ e. c.end_object.ensures.room.0 ∙ c.in_ok-put_text.ensures.before ∙ c.in_ok-i64.ensures.room.0 ∙ c.in_ok-key.ensures.room.0 ∙ c.in_ok-begin_object.ensures.room.0)
    c.end_object.ensures.ok

pub returns-clause-written : goal.returns-clause-written
returns-clause-written c =
    let code : to_z w64 (of_z w64 c.code.result) ≡ error_code c.args.self = ap (λ z. to_z w64 (of_z w64 z)) c.code.ensures ∙ kept c.args.self in
    let text = c.text.result.now in
    on_ok_weaker c.end_object.result
    (λ e. (
      text,
      written c.args.out.now.tokens _ _ _ _ _ (to_z w64 (of_z w64 c.code.result)) text c.in_ok-begin_object.ensures.ok c.in_ok-key.ensures.ok c.in_ok-i64.ensures.ok c.in_ok-put_text.ensures.written e
          ∙ ap (λ z. c.args.out.now.tokens ++ json_tokens (error_json z text)) code,
    ))
    c.end_object.ensures.ok
