use Rattle.std.proofs.Common.{rules, ◌≡◌, ◌+◌, ◌-◌, ◌≤◌, suc, chars, drop, take, ap, arith, sym, ◌∙◌}
use Rattle.std.specs.Char.{len_utf8}
use Rattle.lsp_text.specs.declared.position.Encoding.TheVariants.{Utf8}
use Rattle.lsp_text.specs.declared.position.Position.{Position}
use Rattle.lsp_text.specs.Positions.{index_of_byte, size}
use Rattle.lsp_text.specs.Steps.{walked}
use Rattle.lsp_text.proofs.Walking.{byte_step, step_near}
use Rattle.lsp_text.proofs.place.walk.Goals as goal

pub loop-c-preserved : goal.loop-c-preserved
loop-c-preserved c =
    let l = c.loop-c in
    let i = l.invariant in
    let e = c.args.encoding in
    let s = chars l.rest.now in
    let t = chars c.in-Some.next.now in
    let parts = c.in-Some.ensures.parts in
    let fits : len_utf8 c.in-Some.c ≤ l.left = omega arith in
    let k = index_of_byte (l.left - c.len_utf8-len.result) t in
    let j : index_of_byte l.left s ≡ suc k = byte_step l.left c.in-Some.c s t parts fits ∙ ap (λ z. suc (index_of_byte (l.left - z) t)) (sym c.len_utf8-len.ensures.value) in
    let n = step_near e l.position c.in-Some.c t in
    let line : c.step-position.result.line ≤ l.position.line + len_utf8 c.in-Some.c = omega (arith, n.line, ap (λ (q : Position). q.line) c.step-position.ensures) in
    let character : c.step-position.result.character ≤ l.position.character + len_utf8 c.in-Some.c = omega (arith, n.character, ap (λ (q : Position). q.character) c.step-position.ensures) in
    let whole = ap (size Utf8) parts in
    let part = ap (λ z. size Utf8 (take z s)) j ∙ ap (λ z. size Utf8 (take (suc k) z)) parts in (
      search rules,
      ap (λ z. walked e z k t) c.step-position.ensures ∙ sym (ap (λ z. walked e l.position z s) j ∙ ap (walked e l.position (suc k)) parts) ∙ i.1,
      sym (ap (λ z. drop z s) j ∙ ap (drop (suc k)) parts) ∙ i.2,
      omega (arith, i.3, part),
      omega (arith, i.4, line, whole),
      omega (arith, i.5, character, whole),
    )
