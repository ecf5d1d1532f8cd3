use Rattle.std.proofs.lemmas.Str.{IsUtf8-string_bytes}
use Rattle.kdl_report.proofs.Appended.{appended}
use Rattle.kdl_report.proofs.shown.put.Goals as goal

pub returns : goal.returns
returns c = appended _ _ _ _ (IsUtf8-string_bytes c.args.out.now) c.push_str.ensures.bytes
