-- A value, by its first token.
use Rattle.std.proofs.Common.{sym, ◌∙◌}
use Rattle.kdl_json.specs.Reading.{left}
use Rattle.kdl_json.proofs.ReadValues.{gives_number, gives_text, takes_number, takes_object, takes_text}
use Rattle.kdl_json.proofs.Values.{null_read, truth_read}
use Rattle.kdl_json.proofs.head.value.Goals as goal

pub returns-in-Some-String-clause-sound : goal.returns-in-Some-String-clause-sound
returns-in-Some-String-clause-sound c =
    let was = rw c.in-Some-String.field-0-is at c.in-Some-String.ensures in
    takes_text c.text_value.result c.in-Some-String.text.now (left c.args.source.now) (left c.take.new.self) was c.text_value.ensures

pub returns-in-Some-String-clause-reads : goal.returns-in-Some-String-clause-reads
returns-in-Some-String-clause-reads c = λ x rest w e.
    let was = rw c.in-Some-String.field-0-is at c.in-Some-String.ensures in
    gives_text c.text_value.result c.in-Some-String.text.now (left c.args.source.now) (left c.take.new.self) x rest was c.text_value.ensures e

pub returns-in-Some-Number-clause-sound : goal.returns-in-Some-Number-clause-sound
returns-in-Some-Number-clause-sound c =
    let was = rw c.in-Some-Number.field-0-is at c.in-Some-Number.ensures in
    takes_number c.number_value.result c.in-Some-Number.text.now (left c.args.source.now) (left c.take.new.self) was c.number_value.ensures.written

pub returns-in-Some-Number-clause-reads : goal.returns-in-Some-Number-clause-reads
returns-in-Some-Number-clause-reads c = λ x rest w e.
    let was = rw c.in-Some-Number.field-0-is at c.in-Some-Number.ensures in
    gives_number c.number_value.result c.in-Some-Number.text.now (left c.args.source.now) (left c.take.new.self) x rest was c.number_value.ensures.found w e

pub returns-in-Some-Bool-clause-sound : goal.returns-in-Some-Bool-clause-sound
returns-in-Some-Bool-clause-sound c = rw c.in-Some-Bool.field-0-is at c.in-Some-Bool.ensures

pub returns-in-Some-Bool-clause-reads : goal.returns-in-Some-Bool-clause-reads
returns-in-Some-Bool-clause-reads c = λ x rest w e.
    let was = rw c.in-Some-Bool.field-0-is at c.in-Some-Bool.ensures in
    let k = truth_read c.in-Some-Bool.b x (left c.take.new.self) rest (sym was ∙ e) in
    (k.is, k.rest)

pub returns-in-Some-Null-clause-sound : goal.returns-in-Some-Null-clause-sound
returns-in-Some-Null-clause-sound c = rw c.in-Some-Null.field-0-is at c.in-Some-Null.ensures

pub returns-in-Some-Null-clause-reads : goal.returns-in-Some-Null-clause-reads
returns-in-Some-Null-clause-reads c = λ x rest w e.
    let was = rw c.in-Some-Null.field-0-is at c.in-Some-Null.ensures in
    let k = null_read x (left c.take.new.self) rest (sym was ∙ e) in
    (k.is, k.rest)

pub returns-in-Some-BeginObject-clause-sound : goal.returns-in-Some-BeginObject-clause-sound
returns-in-Some-BeginObject-clause-sound c =
    let was = rw c.in-Some-BeginObject.field-0-is at c.in-Some-BeginObject.ensures in
    takes_object c.float.result (left c.args.source.now) (left c.take.new.self) (left c.float.new.source) was c.float.ensures.sound

pub returns-in-Some-BeginObject-clause-reads : goal.returns-in-Some-BeginObject-clause-reads
returns-in-Some-BeginObject-clause-reads c = λ x rest w e.
    let was = rw c.in-Some-BeginObject.field-0-is at c.in-Some-BeginObject.ensures in
    c.float.ensures.reads x rest w (sym was ∙ e)
