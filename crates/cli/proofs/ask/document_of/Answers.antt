use Rattle.std.proofs.Common.{rules, ◌≡◌, encode_utf8_all, string_bytes}
use Rattle.kdl.specs.Words.{document_prints}
use Rattle.cli.proofs.Applying.{of_json}
use Rattle.cli.proofs.ask.document_of.Goals as goal

pub returns-in_ok-to_string-in-Ok : goal.returns-in_ok-to_string-in-Ok
returns-in_ok-to_string-in-Ok c =
    let d = c.in-Ok.document in
    let e = c.autoformat_no_comments.new.self in
    let s = c.in_ok-to_string-in-Ok.field-0 in
    let laid = c.in_ok-autoformat_no_comments-in-Ok.ensures in
    let same : c.deref_mut.result.now ≡ d = search rules in
    let bytes : string_bytes s ≡ encode_utf8_all (document_prints e) = search rules in
    of_json c.args.text.now d c.deref_mut.result.now e _ s same c.in-Ok.ensures.sound c.in-Ok.ensures.plain laid.formats laid.rereads bytes
