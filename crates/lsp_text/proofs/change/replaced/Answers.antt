use Rattle.std.proofs.Common.{◌≡◌, ◌++◌, ap, arith, drop, max, rules, string_bytes, take, ◌∙◌}
use Rattle.std.specs.Str.{chars}
use Rattle.lsp_text.specs.declared.position.Encoding.TheVariants.{Utf8}
use Rattle.lsp_text.specs.Positions.{index, size}
use Rattle.lsp_text.proofs.Places.{chars_drop, chars_take, size_take_max, three_parts}
use Rattle.lsp_text.proofs.change.replaced.Goals as goal

pub returns : goal.returns
returns c =
    let t = c.args.text.now in
    let i = index c.args.encoding c.args.range.start (chars t) in
    let j = index c.args.encoding c.args.range.end (chars t) in
    let a : c.range.result.now ≡ take c.offsets_of-start.result.0 t = search rules in
    let d : c.range_from.result.now ≡ drop c.max-end.result t = search rules in
    let at_end : c.max-end.result ≡ size Utf8 (take (max i j) (chars t)) =
    grind (arith, c.max-end.ensures, c.offsets_of-start.ensures.end, c.offsets_of-start.ensures.start, size_take_max Utf8 i j (chars t)) in
    let front : chars c.range.result.now ≡ take i (chars t) = ap chars a ∙ chars_take t i c.offsets_of-start.result.0 c.utf8.text c.offsets_of-start.ensures.start in
    let back : chars c.range_from.result.now ≡ drop (max i j) (chars t) = ap chars d ∙ chars_drop t (max i j) c.max-end.result c.utf8.text at_end in
    let out = string_bytes c.in_ok-out.out in
    let first = string_bytes c.push_str.new.self in
    let second = string_bytes c.push_str-2.new.self in
    let third = string_bytes c.push_str-3.new.self in
    three_parts c.range.result.now c.args.new.now c.range_from.result.now out first second third c.range.utf8 c.utf8.new c.in_ok-out.ensures.bytes c.in_ok-push_str.ensures.bytes
    c.in_ok-push_str-2.ensures.bytes c.in_ok-push_str-3.ensures.bytes
    ∙ ap (λ v. (v ++ chars c.args.new.now) ++ chars c.range_from.result.now) front
    ∙ ap (λ v. (take i (chars t) ++ chars c.args.new.now) ++ v) back
