use Rattle.std.proofs.Common.{codes, rules, subst}
use Rattle.std.proofs.lemmas.Result.{err_from_is_err_and}
use Rattle.std.specs.Prelude.{MatchResult}
use Rattle.kdl_report.specs.Shown.{shown_bytes}
use Rattle.watched.specs.Streams.{Grows, IsCut, stream}
use Rattle.cli_world.proofs.Lines.{cut_at_name, cut_at_start, line_written, tail}
use Rattle.cli_world.proofs.process.write_strange.Goals as goal

pub returns-in_err-write_whole : goal.returns-in_err-write_whole
returns-in_err-write_whole g c =
    let known = stream g.E.Write.contents in
    let cut = cut_at_start (codes "kdl: ") (shown_bytes c.args.name.now) c.args.what.now (known c.args.err.now) (known c.write_whole.new.self) c.in_err-write_whole.ensures.0 in
    (rw (err_from_is_err_and c.from_residual.result c.from_residual.ensures.1).1 cut, search rules)

pub returns-in_err-write_shown : goal.returns-in_err-write_shown
returns-in_err-write_shown g c =
    let known = stream g.E.Write.contents in
    let cut = cut_at_name (codes "kdl: ") (shown_bytes c.args.name.now) c.args.what.now (known c.args.err.now) (known c.write_whole.new.self) (known c.write_shown.new.err) c.in_ok-write_whole.ensures.0 c.in_err-write_shown.ensures.0 in
    (rw (err_from_is_err_and c.from_residual-in_err-write_shown.result c.from_residual-in_err-write_shown.ensures.1).1 cut, search rules)

pub returns : goal.returns
returns g c =
    let known = stream g.E.Write.contents in
    let mid = known c.write_shown.new.err in
    let new = known c.write_line.new.self in
    let last = subst (λ w. MatchResult c.write_line.result (λ _. Grows (tail w) mid new) (λ _. IsCut (tail w) mid new)) c.as_bytes.ensures.value c.write_line.ensures.0 in
    (line_written c.write_line.result (codes "kdl: ") (shown_bytes c.args.name.now) c.args.what.now (known c.args.err.now) (known c.write_whole.new.self) mid new c.in_ok-write_whole.ensures.0 c.in_ok-write_shown.ensures.0 last, search rules)
