use Rattle.std.proofs.Common.{◌≡◌, ◌++◌, flat_map, string_bytes, sym, ap, ◌∙◌}
use Rattle.std.specs.Str.{chars}
use Rattle.std.proofs.lemmas.Iterator.{YieldsList-from_chars}
use Rattle.std.proofs.lemmas.Iterator.Consumers.{YieldsList-end}
use Rattle.std.proofs.lemmas.List.{map-id}
use Rattle.cli_words.specs.Template.{escaped_char}
use Rattle.cli_words.proofs.template.push_escaped.Goals as goal

pub returns : goal.returns
returns c =
    let all : c.loop-c.yielded ≡ chars c.args.text.now = sym (map-id _) ∙ (YieldsList-end (YieldsList-from_chars c.args.text.now c.utf8.text cc) c.loop-c.yielded _ c.loop-c.yielded_by _ _ c.in-None.is c.next.ensures.steps).0 in
    c.loop-c.invariant ∙ ap (λ z. string_bytes c.args.out.now ++ flat_map (escaped_char c.args.escapes.now) z) all
