use Rattle.std.proofs.Common.{◌<◌, sym, ap, ◌∙◌, subst, chars, rules}
use Rattle.std.proofs.lemmas.Str.{chars-nil}
use Rattle.std.specs.Char.{IsScalar}
use Rattle.kdl_report.specs.Spots.{HasNoRoom}
use Rattle.kdl_report.specs.Spots.HasNoRoom.{empty, full}
use Rattle.kdl_report.specs.Windows.{room}
use Rattle.kdl_report.proofs.WindowSteps.{last_whole}
use Rattle.kdl_report.proofs.window.previous_in.Goals as goal

pub returns-then-room-columns : goal.returns-then-room-columns
returns-then-room-columns c =
    let last = c.in-Some.c in
    let rest = c.in-Some.rest.now in
    let scalar : IsScalar last = search rules in
    let whole = last_whole c.args.text.now rest last c.in-Some.ensures.utf8 scalar c.in-Some.ensures.parts in
    let over : c.args.columns < room last = subst (λ z. c.args.columns < z) c.room_of-room.ensures c.if-room-columns.true in
    subst (HasNoRoom c.args.columns) (sym whole) (full (chars rest) last over)

pub returns-else-room-columns : goal.returns-else-room-columns
returns-else-room-columns c =
    let last = c.in-Some.c in
    let scalar : IsScalar last = search rules in
    record {
      c = last;
      bytes = c.in-Some.ensures.parts;
      whole = last_whole c.args.text.now c.in-Some.rest.now last c.in-Some.ensures.utf8 scalar c.in-Some.ensures.parts;
      columns = sym c.room_of-room.ensures;
      fits = c.if-room-columns.false;
      utf8 = c.in-Some.ensures.utf8;
    }

pub returns-in-None : goal.returns-in-None
returns-in-None c = subst (HasNoRoom c.args.columns) (sym (ap chars c.in-None.ensures.parts ∙ chars-nil)) empty
