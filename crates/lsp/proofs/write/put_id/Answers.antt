use Rattle.std.proofs.Common.{◌≡◌, ℕ, List, None, Some, ap, unwrap_or}
use Rattle.std.proofs.lemmas.Result.{on_ok_weaker}
use Rattle.json.specs.Find.{as_str}
use Rattle.json.specs.Json as json
use Rattle.json.specs.Json.{Json}
use Rattle.lsp.specs.Replies.{IsId, IsNumberId}
use Rattle.lsp.proofs.Growing.{next}
use Rattle.lsp.proofs.write.put_id.Goals as goal

-- an identifier that is a string, and another one
of_string : (j : Json) (s : List ℕ) → Some s ≡ as_str j → IsId j (json.string s)
of_string json.null s e = absurd (cc (e))
of_string (json.boolean b) s e = absurd (cc (e))
of_string (json.number n) s e = absurd (cc (e))
of_string (json.string t) s e = ap (λ o. json.string (unwrap_or o s)) e
of_string (json.array js) s e = absurd (cc (e))
of_string (json.object ms) s e = absurd (cc (e))

of_other : (j i : Json) → None ≡ as_str j → IsNumberId j i → IsId j i
of_other json.null i e is = is
of_other (json.boolean b) i e is = is
of_other (json.number n) i e is = is
of_other (json.string t) i e is = absurd (cc (e))
of_other (json.array js) i e is = is
of_other (json.object ms) i e is = is

pub returns-in-Some-clause-written : goal.returns-in-Some-clause-written
returns-in-Some-clause-written c =
    on_ok_weaker c.string.result (λ e. (json.string c.in-Some.text.now, tt, of_string _ _ c.in-Some.ensures, next c.args.out.now.tokens _ _ _ _ c.in_ok-key.ensures.ok e)) c.string.ensures.ok

pub returns-in-None-clause-written : goal.returns-in-None-clause-written
returns-in-None-clause-written c =
    on_ok_weaker c.put_number_id.result (λ n. (n.0, n.1, of_other _ _ c.in-None.ensures n.2, next c.args.out.now.tokens _ _ _ _ c.in_ok-key.ensures.ok n.3)) c.put_number_id.ensures.written
