use Rattle.std.proofs.Common.{rules, ◌≡◌, ◌++◌}
use Rattle.std.proofs.lemmas.Str.{chars_past_char, IsUtf8-past_char}
use Rattle.std.specs.Char.{encode_utf8}
use Rattle.kdl_value.proofs.spelled.next_char.Goals as goal

pub returns-clause-cases : goal.returns-clause-cases
returns-clause-cases c =
    let e : c.args.s.now ≡ encode_utf8 c.in_ok-c.c ++ c.as_str.result.now = search rules in
    chars_past_char c.args.s.now _ _ c.utf8.s e

pub returns-clause-text : goal.returns-clause-text
returns-clause-text c =
    let e : c.args.s.now ≡ encode_utf8 c.in_ok-c.c ++ c.as_str.result.now = search rules in
    IsUtf8-past_char c.args.s.now _ _ c.utf8.s e
