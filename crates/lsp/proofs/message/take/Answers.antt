use Rattle.std.proofs.Common.{rules, ◌≡◌, ◌⊎◌, ◌∙◌, IfOk, IsSomeAnd, Option, None, Some, ap, codes, option_map, subst, sym, unwrap_or}
use Rattle.json.specs.Json.{null}
use Rattle.json.specs.Value.{value_view}
use Rattle.lsp.specs.Messages.{method_of, params_of}
use Rattle.lsp.specs.Replies.{IsFailure, IsGreeting, OneReply}
use Rattle.lsp_documents.specs.declared.state.Phase.TheVariants.{Running}
use Rattle.lsp_documents.specs.Notes.{Changed, Tells}
use Rattle.lsp.proofs.Sending.{null_is_null}
use Rattle.lsp.proofs.message.take.Goals as goal

-- what a function gives of a value, or of another one in its place
of_either : {A B : Type 0} (f : A → B) (o : Option A) (d r : A) (g : Option B) (n : B) → r ≡ unwrap_or o d → option_map f o ≡ g → f d ≡ n → f r ≡ unwrap_or g n
of_either f None d r g n is got none = ap f is ∙ none ∙ ap (λ o. unwrap_or o n) got
of_either f (Some a) d r g n is got none = ap f is ∙ ap (λ o. unwrap_or o n) got

pub returns-in-Some-None-clause-untold : goal.returns-in-Some-None-clause-untold
returns-in-Some-None-clause-untold c none texts agrees =
    let j = value_view c.args.message.now in
    let method : method_of j ≡ Some c.in-Some-None.method.now = search rules in
    let params : value_view c.unwrap_or-params.result.now ≡ params_of j =
    of_either (λ p. value_view p.now) c.get.result _ c.unwrap_or-params.result _ null c.unwrap_or-params.ensures c.get.ensures null_is_null in
    c.notification.ensures.untold
    (λ note tells. none note
    (subst (λ m. IsSomeAnd m (λ name. Tells name (params_of j) note)) (sym method)
    (subst (λ p. Tells c.in-Some-None.method.now p note) params tells)))
    texts agrees

pub returns-in-Some-None-clause-stays : goal.returns-in-Some-None-clause-stays
returns-in-Some-None-clause-stays c uri changes tells =
    let j = value_view c.args.message.now in
    let method : method_of j ≡ Some c.in-Some-None.method.now = search rules in
    let params : value_view c.unwrap_or-params.result.now ≡ params_of j =
    of_either (λ p. value_view p.now) c.get.result _ c.unwrap_or-params.result _ null c.unwrap_or-params.ensures c.get.ensures null_is_null in
    c.notification.ensures.stays uri changes
    (subst (λ p. Tells c.in-Some-None.method.now p (Changed uri changes)) (sym params) (subst (λ m. IsSomeAnd m (λ name. Tells name (params_of j) (Changed uri changes))) method tells))

pub returns-in-Some-None-clause-due : goal.returns-in-Some-None-clause-due
returns-in-Some-None-clause-due c running note tells =
    let j = value_view c.args.message.now in
    let method : method_of j ≡ Some c.in-Some-None.method.now = search rules in
    let params : value_view c.unwrap_or-params.result.now ≡ params_of j =
    of_either (λ p. value_view p.now) c.get.result _ c.unwrap_or-params.result _ null c.unwrap_or-params.ensures c.get.ensures null_is_null in
    c.notification.ensures.due running note
    (subst (λ p. Tells c.in-Some-None.method.now p note) (sym params) (subst (λ m. IsSomeAnd m (λ name. Tells name (params_of j) note)) method tells))

pub returns-in-Some-Some-clause-started : goal.returns-in-Some-Some-clause-started
returns-in-Some-Some-clause-started c early id starts =
    let same : value_view c.in-Some-Some.id.now ≡ id = search rules in
    let is : c.in-Some-Some.method.now ≡ codes "initialize" = search rules in
    let new = c.request.new.state in
    subst (λ i. IfOk c.request.result (λ out. OneReply (λ m. IsFailure i m ⊎ ((new.phase ≡ Running) × IsGreeting i new.client.encoding m)) out.items)) same (c.request.ensures.started early is)

pub returns-in-Some-None-clause-told : goal.returns-in-Some-None-clause-told
returns-in-Some-None-clause-told c running note texts tells =
    let j = value_view c.args.message.now in
    let method : method_of j ≡ Some c.in-Some-None.method.now = search rules in
    let params : value_view c.unwrap_or-params.result.now ≡ params_of j =
    of_either (λ p. value_view p.now) c.get.result _ c.unwrap_or-params.result _ null c.unwrap_or-params.ensures c.get.ensures null_is_null in
    c.notification.ensures.told running note texts
    (subst (λ p. Tells c.in-Some-None.method.now p note) (sym params) (subst (λ m. IsSomeAnd m (λ name. Tells name (params_of j) note)) method tells))
