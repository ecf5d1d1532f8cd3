-- The name and the type of a node.
use Rattle.std.proofs.Common.{◌≡◌, ◌∷◌, [], List, Option, Result, ap, refl, ◌∙◌}
use Rattle.std.specs.Prelude.{Ok, Err, IfOk, MatchResult, codes}
use Rattle.std.specs.Str.{encode_utf8_all}
use Rattle.json.specs.Token.{Token, key, string}
use Rattle.kdl_text.specs.Chars.{Text}
use Rattle.kdl_grammar.specs.Data.{node, no_children}
use Rattle.kdl_entry.specs.Tree.{identifier_tree}
use Rattle.kdl.specs.Tree.{node_says}
use Rattle.kdl.specs.declared.node.KdlNode.{KdlNode}
use Rattle.kdl_json.specs.Form.{member_tokens, name_tokens}
use Rattle.kdl_json.specs.Heads.{IsNamed}
use Rattle.kdl_json.specs.Reading.{Gives, left}
use Rattle.kdl_json.specs.declared.failure.JsonFailure.{JsonFailure}
use Rattle.kdl_json.specs.declared.failure.JsonFailure.TheVariants.{Memory}
use Rattle.kdl_json.proofs.Memory.{is_memory}
use Rattle.kdl_json.proofs.Tokens.{after_first}
use Rattle.kdl_json.proofs.head.named.Goals as goal

pub returns-then-not-take_key-clause-reads : goal.returns-then-not-take_key-clause-reads
returns-then-not-take_key-clause-reads c = λ ty name rest n e. absurd (c.if-not-take_key.ensures.1 _ e)

pub returns-in_err-name-clause-reads : goal.returns-in_err-name-clause-reads
returns-in_err-name-clause-reads c = λ ty name rest n e.
    let k = c.in_err-name.ensures.reads name (member_tokens (codes "type") ty rest) (after_first c.if-not-take_key.ensures e) in
    rw (is_memory c.from_residual.result c.in_err-name.field-0.0 k c.from_residual.ensures.1) refl

pub returns-in_err-ty-clause-reads : goal.returns-in_err-ty-clause-reads
returns-in_err-ty-clause-reads c = λ ty name rest n e.
    let m = c.in_ok-name.ensures.reads name (member_tokens (codes "type") ty rest) (after_first c.if-not-take_key.ensures e) in
    let k = c.in_err-ty.ensures.reads ty rest n m.1 in
    rw (is_memory c.from_residual-in_err-ty.result c.in_err-ty.field-0.0 k c.from_residual-in_err-ty.ensures.1) refl

-- the node has that name and that type
abbrev IsBare : Result KdlNode JsonFailure → Option Text → Text → Type 0
IsBare r ty name = MatchResult r (λ n. node_says n ≡ node ty name [] no_children) (λ e. e ≡ Memory)

named_sound : (r : Result KdlNode JsonFailure) (ty : Option Text) (name : Text) (old new : List Token) → IsBare r ty name → old ≡ name_tokens ty name new → IfOk r (λ n. IsNamed (node_says n) old new)
named_sound (Ok n) ty name old new h t = record { ty = ty; name = name; is = h; tokens = t }
named_sound (Err e) ty name old new h t = tt

named_reads : (r : Result KdlNode JsonFailure) (ty uy : Option Text) (name nome : Text) (new rest : List Token) → IsBare r ty name → ty ≡ uy → name ≡ nome → new ≡ rest → Gives node_says r new (node uy nome [] no_children) rest
named_reads (Ok n) ty uy name nome new rest h t m e = (h ∙ ap (λ (u : Option Text). node u name [] no_children) t ∙ ap (λ (s : Text). node uy s [] no_children) m, e)
named_reads (Err x) ty uy name nome new rest h t m e = h

pub returns-clause-sound : goal.returns-clause-sound
returns-clause-sound c = named_sound c.bare.result _ _ (left c.args.source.now) (left c.member.new.source) c.bare.ensures.data
    (c.if-not-take_key.ensures ∙ ap (λ (ts : List Token). key (codes "name") ∷ ts) (c.in_ok-name.ensures.sound ∙ ap (λ (ts : List Token). string (encode_utf8_all (identifier_tree c.in_ok-name.name).value) ∷ ts) c.in_ok-ty.ensures.sound))

pub returns-clause-reads : goal.returns-clause-reads
returns-clause-reads c = λ ty name rest n e.
    let m = c.in_ok-name.ensures.reads name (member_tokens (codes "type") ty rest) (after_first c.if-not-take_key.ensures e) in
    let t = c.in_ok-ty.ensures.reads ty rest n m.1 in
    named_reads c.bare.result _ ty _ name (left c.member.new.source) rest c.bare.ensures.data t.0 m.0 t.1
