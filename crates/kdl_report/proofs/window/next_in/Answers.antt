use Rattle.std.proofs.Common.{◌<◌, sym, ap, ◌∙◌, subst}
use Rattle.std.proofs.lemmas.Bool.{cond-true, cond-false}
use Rattle.kdl_report.specs.Places.{first_line}
use Rattle.kdl_report.specs.Windows.{front_in, room}
use Rattle.kdl_report.proofs.WindowSteps.{front_stops}
use Rattle.kdl_report.proofs.window.next_in.Goals as goal

pub returns-then-is_newline_char : goal.returns-then-is_newline_char
returns-then-is_newline_char c =
    ap (front_in c.args.columns) (ap first_line c.in_ok-c.ensures.parts ∙ cond-true _ _ _ (sym c.is_newline_char.ensures ∙ c.if-is_newline_char.true))

pub returns-then-room-columns : goal.returns-then-room-columns
returns-then-room-columns c =
    let over : c.args.columns < room c.in_ok-c.c = subst (λ z. c.args.columns < z) c.room_of-room.ensures c.if-room-columns.true in
    ap (front_in c.args.columns) (ap first_line c.in_ok-c.ensures.parts ∙ cond-false _ _ _ (sym c.is_newline_char.ensures ∙ c.if-is_newline_char.false))
    ∙ front_stops _ _ _ over

pub returns : goal.returns
returns c = record {
  c = c.in_ok-c.c;
  whole = c.in_ok-c.ensures.parts;
  plain = sym c.is_newline_char.ensures ∙ c.if-is_newline_char.false;
  columns = sym c.room_of-room.ensures;
  fits = c.if-room-columns.false;
  utf8 = c.in_ok-c.ensures.utf8;
}
