use Rattle.std.proofs.Common.{◌≡◌, ℕ, List, [], ◌++◌, Some, ◌∙◌, ap, refl}
use Rattle.std.specs.Prelude.{encode_utf8_all}
use Rattle.std.proofs.lemmas.Str.{encodes-chars}
use Rattle.tool.specs.Commands.{asked_by}
use Rattle.tool.proofs.Commands.{laid_out_is, written_is}
use Rattle.tool.proofs.output.Goals as goal

-- what is appended to no bytes
appended : (out more all : List ℕ) → all ≡ out ++ more → out ≡ [] → all ≡ more
appended out more all e none = e ∙ ap (λ z. z ++ more) none

pub returns-in_ok-printed-in-Cat-clause-output : goal.returns-in_ok-printed-in-Cat-clause-output
returns-in_ok-printed-in-Cat-clause-output c =
    written_is (asked_by c.args.command) c.args.text.now _ _ c.utf8.text c.in_ok-document.ensures.found c.in_ok-document.ensures.only
    (rw c.in-Cat.is (ap Some (appended _ _ _ c.in_ok-printed-in-Cat.ensures c.in_ok-out-in-Cat.ensures.bytes ∙ ap encode_utf8_all c.in_ok-document.ensures.prints ∙ encodes-chars c.args.text.now c.utf8.text)))

pub returns-in_ok-printed-in-Fmt-clause-output : goal.returns-in_ok-printed-in-Fmt-clause-output
returns-in_ok-printed-in-Fmt-clause-output c =
    let layout = c.in_ok-autoformat-in-Fmt.ensures in
    written_is (asked_by c.args.command) c.args.text.now _ _ c.utf8.text c.in_ok-document.ensures.found c.in_ok-document.ensures.only
    (rw c.in-Fmt.is (laid_out_is _ _ _ _ _ c.in_ok-document.ensures.laid layout.formats.formatted (layout.rereads.derived refl c.in_ok-document.ensures.keeps_none) (ap Some (appended _ _ _ c.in_ok-printed-in-Fmt.ensures c.in_ok-out-in-Fmt.ensures.bytes))))

pub returns-in_ok-printed-in-Strip-clause-output : goal.returns-in_ok-printed-in-Strip-clause-output
returns-in_ok-printed-in-Strip-clause-output c =
    let canonical = c.in_ok-autoformat_no_comments-in-Strip.ensures.formats.prints (refl, refl) c.in_ok-document.ensures.keeps_none in
    written_is (asked_by c.args.command) c.args.text.now _ _ c.utf8.text c.in_ok-document.ensures.found c.in_ok-document.ensures.only
    (rw c.in-Strip.is (ap Some (appended _ _ _ c.in_ok-printed-in-Strip.ensures c.in_ok-out-in-Strip.ensures.bytes ∙ ap encode_utf8_all canonical)))
