use Rattle.lsp_text.proofs.Places.{offset_found}
use Rattle.lsp_text.proofs.offset.offsets_of.Goals as goal

pub overflow_sub-start : goal.overflow_sub-start
overflow_sub-start c =
    (offset_found c.args.encoding c.args.range.start c.args.text.now c.from_line-first.result.now c.from_unit.result.now c.utf8.text c.from_unit.utf8 c.from_line-first.ensures c.from_unit.ensures).le

pub overflow_sub-end : goal.overflow_sub-end
overflow_sub-end c =
    (offset_found c.args.encoding c.args.range.end c.args.text.now c.from_line_on-last.result.now c.from_unit-2.result.now c.utf8.text c.from_unit-2.utf8 c.from_line_on-last.ensures c.from_unit-2.ensures).le

pub returns-clause-start : goal.returns-clause-start
returns-clause-start c =
    (offset_found c.args.encoding c.args.range.start c.args.text.now c.from_line-first.result.now c.from_unit.result.now c.utf8.text c.from_unit.utf8 c.from_line-first.ensures c.from_unit.ensures).offset

pub returns-clause-end : goal.returns-clause-end
returns-clause-end c =
    (offset_found c.args.encoding c.args.range.end c.args.text.now c.from_line_on-last.result.now c.from_unit-2.result.now c.utf8.text c.from_unit-2.utf8 c.from_line_on-last.ensures c.from_unit-2.ensures).offset

pub returns-clause-boundaries : goal.returns-clause-boundaries
returns-clause-boundaries c = (
  (offset_found c.args.encoding c.args.range.start c.args.text.now c.from_line-first.result.now c.from_unit.result.now c.utf8.text c.from_unit.utf8 c.from_line-first.ensures c.from_unit.ensures).boundary,
  (offset_found c.args.encoding c.args.range.end c.args.text.now c.from_line_on-last.result.now c.from_unit-2.result.now c.utf8.text c.from_unit-2.utf8 c.from_line_on-last.ensures c.from_unit-2.ensures).boundary,
)
