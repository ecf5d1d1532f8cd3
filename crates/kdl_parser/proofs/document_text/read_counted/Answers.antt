use Rattle.std.proofs.Common.{◌∷◌, Bool, Ok, Err, ap, subst, sym, ◌∙◌}
use Rattle.std.specs.Str.{chars}
use Rattle.kdl_text.specs.Chars.{Text}
use Rattle.kdl_text.specs.Internal.Here.{Here, Ate}
use Rattle.kdl_parser.specs.Internal.Answered.{AnswersParts}
use Rattle.kdl_parser.specs.Internal.Building.{EndsIn}
use Rattle.kdl_parser.proofs.Answering.LeadingBom.{bom_ends, bom_read, passed_failure, plain_read}
use Rattle.kdl_parser.proofs.document_text.read_counted.Goals as goal
use Rattle.kdl_parser.proofs.document_text.read_counted.Goals.{then-has_bom+in_ok-parts-2, else-has_bom}

pub build-read-requires-clause-text : goal.build-read-requires-clause-text
build-read-requires-clause-text g c =
    let new = c.new-cursor.ensures in
    subst (λ (h : Here). EndsIn h.text h.rest) (sym c.new-builder.ensures.cursor)
    (bom_ends (chars c.args.text.now) c.eat-has_bom.result c.new-cursor.result c.eat-has_bom.new.self (ap (λ (h : Here). h.text) new) (ap (λ (h : Here). h.rest) new) c.eat-has_bom.ensures)

pub returns-in_err-parts-clause-answers : goal.returns-in_err-parts-clause-answers
returns-in_err-parts-clause-answers g c =
    let new = c.new-cursor.ensures in
    passed_failure g.N.ParsedNode.tree (chars c.args.text.now) c.eat-has_bom.result c.new-cursor.result c.eat-has_bom.new.self c.in_err-parts.field-0.0 c.from_residual.result (ap (λ (h : Here). h.text) new) (ap (λ (h : Here). h.rest) new) c.eat-has_bom.ensures
    (subst (λ (h : Here). AnswersParts g.N.ParsedNode.tree h.text h.rest (Err c.in_err-parts.field-0.0)) c.new-builder.ensures.cursor c.in_err-parts.ensures.answers) c.from_residual.ensures.1

pub returns-clause-answers : goal.returns-clause-answers
returns-clause-answers g c =
    let new = c.new-cursor.ensures in
    let read = subst (λ (h : Here). AnswersParts g.N.ParsedNode.tree h.text h.rest (Ok c.in_ok-parts.parts)) c.new-builder.ensures.cursor c.in_ok-parts.ensures.answers in
    elim c.if-has_bom.branch [
      | then-has_bom+in_ok-parts-2 w ↦
          rw w.parts-is
          (bom_read g.N.ParsedNode.tree (chars c.args.text.now) c.new-cursor.result c.eat-has_bom.new.self c.in_ok-parts.parts w.in_ok-parts-2.field-0 (ap (λ (h : Here). h.text) new) (ap (λ (h : Here). h.rest) new)
          (subst (λ (b : Bool). Ate 0xFEFF b c.new-cursor.result c.eat-has_bom.new.self) w.if-has_bom.true c.eat-has_bom.ensures) read (w.in_ok-parts-2.ensures ∙ ap (λ (t : Text). 0xFEFF ∷ t) (ap chars w.deref.ensures)))
      | else-has_bom w ↦
          rw w.parts-is
          (plain_read g.N.ParsedNode.tree (chars c.args.text.now) c.new-cursor.result c.eat-has_bom.new.self c.in_ok-parts.parts (ap (λ (h : Here). h.text) new) (ap (λ (h : Here). h.rest) new)
          (subst (λ (b : Bool). Ate 0xFEFF b c.new-cursor.result c.eat-has_bom.new.self) w.if-has_bom.false c.eat-has_bom.ensures) read)
    ]
