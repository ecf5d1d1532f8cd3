use Rattle.std.proofs.Common.{◌∷◌, ◌++◌, ◌∙◌, [], codes, decimal}
use Rattle.std.proofs.lemmas.Result.{on_ok_weaker}
use Rattle.json.specs.Token.{begin_object, end_object, key, number, string}
use Rattle.lsp.specs.Faults.{message_in, range_tokens}
use Rattle.lsp.proofs.Growing.{next}
use Rattle.lsp.proofs.Publishing.{fault_is}
use Rattle.lsp.proofs.Nesting.{wrote, wrote_last}
use Rattle.lsp.proofs.faults.Report.put_fault.Goals as goal

pub returns-clause-written : goal.returns-clause-written
returns-clause-written c =
    let m = c.in_ok-put_message.ensures.written in
    let old = c.args.out.now.tokens in
    let range = key (codes "range") ∷ range_tokens c.range-range.result in
    let severity = key (codes "severity") ∷ number (decimal c.severity.result) ∷ [] in
    let source = key (codes "source") ∷ string (codes "kdl") ∷ [] in
    let message = key (codes "message") ∷ string (message_in c.args.fault.now ++ m.1.0) ∷ m.1.1 in
    let one = next old _ _ (begin_object ∷ []) range c.in_ok-begin_object.ensures.ok c.in_ok-put_range.ensures.written in
    let two = next old _ _ (begin_object ∷ range) severity one c.in_ok-put_number.ensures.written in
    let three = next old _ _ (begin_object ∷ range ++ severity) source two c.in_ok-put_text.ensures.written in
    let four = next old _ _ ((begin_object ∷ range ++ severity) ++ source) message three m.1.2 in
    let before = m.0 ∙ c.in_ok-put_text.ensures.before ∙ c.in_ok-put_number.ensures.before ∙ c.in_ok-put_range.ensures.before ∙ c.in_ok-begin_object.ensures.room.0 in
    let is = fault_is c.args.self.now.cursor.encoding c.args.self.now.cursor.text.now c.args.fault.now c.range-range.result c.severity.result m.1.0 (m.1.1 ++ end_object ∷ []) c.range-range.ensures.range c.severity.ensures in
    on_ok_weaker c.end_object.result
    (λ e. (c.end_object.ensures.room.0 ∙ before, (_, is, next old _ _ (((begin_object ∷ range ++ severity) ++ source) ++ message) (end_object ∷ []) four e)))
    c.end_object.ensures.ok

pub returns-clause-items : goal.returns-clause-items
returns-clause-items c =
    on_ok_weaker c.end_object.result
    (λ e n is. (
    let one = wrote _ _ _ _ _ c.in_ok-begin_object.ensures is in
    let two = c.in_ok-put_range.ensures.members _ one in
    let three = c.in_ok-put_number.ensures.members _ two in
    let four = c.in_ok-put_text.ensures.members _ three in
    let five = c.in_ok-put_message.ensures.members _ four in
    e _ five))
    (wrote_last _ _ _ _ c.end_object.ensures)
