use Rattle.std.proofs.Common.{◌≡◌, ℕ, List, None, Some, ap, refl, subst, unwrap_or}
use Rattle.std.proofs.lemmas.Result.{on_ok_weaker}
use Rattle.json.specs.Find.{as_number}
use Rattle.json.specs.Json as json
use Rattle.json.specs.Json.{Json}
use Rattle.lsp.specs.Replies.{IsLiteral, IsNumberId}
use Rattle.lsp.proofs.write.put_number_id.Goals as goal

-- an identifier that is a number, and another one
of_number : (j : Json) (s : List ℕ) (i : Json) → Some s ≡ as_number j → IsLiteral s i → IsNumberId j i
of_number json.null s i e is = absurd (cc (e))
of_number (json.boolean b) s i e is = absurd (cc (e))
of_number (json.number t) s i e is = subst (λ n. IsLiteral n i) (ap (λ o. unwrap_or o s) e) is
of_number (json.string t) s i e is = absurd (cc (e))
of_number (json.array js) s i e is = absurd (cc (e))
of_number (json.object ms) s i e is = absurd (cc (e))

of_other : (j : Json) → None ≡ as_number j → IsNumberId j json.null
of_other json.null e = refl
of_other (json.boolean b) e = refl
of_other (json.number t) e = absurd (cc (e))
of_other (json.string t) e = refl
of_other (json.array js) e = refl
of_other (json.object ms) e = refl

pub returns-in-Some-clause-written : goal.returns-in-Some-clause-written
returns-in-Some-clause-written c =
    on_ok_weaker c.put_literal.result (λ n. (n.0, n.1, of_number _ _ _ c.in-Some.ensures n.2, n.3)) c.put_literal.ensures.written

pub returns-in-None-clause-written : goal.returns-in-None-clause-written
returns-in-None-clause-written c = on_ok_weaker c.null.result (λ e. (json.null, tt, of_other _ c.in-None.ensures, e)) c.null.ensures.ok
