use Rattle.std.proofs.lemmas.Str.{IsUtf8-string_bytes}
use Rattle.kdl_text.proofs.Quoted.EscapeReads.{unit_pushed}
use Rattle.kdl_text.proofs.strings.escape.Goals as goal

pub returns-in_ok-push_escaped-in-Some-clause-found : goal.returns-in_ok-push_escaped-in-Some-clause-found
returns-in_ok-push_escaped-in-Some-clause-found c = unit_pushed _ c.in-Some.c _ _ _ c.in-Some.is c.in_ok-c.ensures.found (IsUtf8-string_bytes c.args.out.now) (IsUtf8-string_bytes c.push_escaped.new.out) c.in_ok-push_escaped-in-Some.ensures
