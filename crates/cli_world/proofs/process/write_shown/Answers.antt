use Rattle.std.proofs.Common.{◌≡◌, ◌∙◌, length, rules, subst, sym, take}
use Rattle.std.specs.Str.{chars}
use Rattle.std.proofs.lemmas.Iterator.{YieldsList-from_chars}
use Rattle.std.proofs.lemmas.Iterator.Consumers.{YieldsList-end, YieldsList-so_far, YieldsList-turn}
use Rattle.std.proofs.lemmas.List.{map-id}
use Rattle.std.proofs.lemmas.Result.{err_from_is_err_and}
use Rattle.watched.specs.Flags.{StopsAtFailure}
use Rattle.watched.specs.Streams.{Grows, stream}
use Rattle.cli_world.proofs.Lines.{name_cut, name_shown}
use Rattle.cli_world.proofs.process.write_shown.Goals as goal

pub returns-in_err-write_whole : goal.returns-in_err-write_whole
returns-in_err-write_whole g c =
    let stops : StopsAtFailure c.args.err.now c.write_whole.new.self = search rules in
    let road = YieldsList-from_chars c.args.name.now c.utf8.name cc in
    let before : c.loop-c.yielded ≡ take (length c.loop-c.yielded) (chars c.args.name.now) = sym (map-id _) ∙ YieldsList-so_far road c.loop-c.yielded _ c.loop-c.yielded_by in
    let at = YieldsList-turn road c.loop-c.yielded _ c.loop-c.yielded_by _ _ c.in-Some.c c.in-Some.is c.next.ensures.steps in
    let known = stream g.E.Write.contents in
    let cut = name_cut c.args.name.now c.loop-c.yielded c.in-Some.c c.as_bytes.result.now (known c.args.err.now) (known c.loop-c.err) (known c.write_whole.new.self)
    before at (c.as_bytes.ensures.value ∙ c.shown_char.ensures) c.loop-c.invariant.written c.in_err-write_whole.ensures.0 in
    (rw (err_from_is_err_and c.from_residual.result c.from_residual.ensures.1).1 cut, stops)

pub returns : goal.returns
returns g c =
    let all : c.loop-c.yielded ≡ chars c.args.name.now = sym (map-id _) ∙ (YieldsList-end (YieldsList-from_chars c.args.name.now c.utf8.name cc) c.loop-c.yielded _ c.loop-c.yielded_by _ _ c.in-None.is c.next.ensures.steps).0 in
    let known = stream g.E.Write.contents in
    (subst (λ t. Grows t (known c.args.err.now) (known c.loop-c.err)) (name_shown c.args.name.now c.loop-c.yielded all) c.loop-c.invariant.written, c.loop-c.invariant.stops)
