use Rattle.lsp_text.proofs.Places.{offset_found}
use Rattle.lsp_text.proofs.offset.offset_of.Goals as goal

pub overflow_sub-result : goal.overflow_sub-result
overflow_sub-result c =
    (offset_found c.args.encoding c.args.position c.args.text.now c.from_line.result.now c.from_unit-rest.result.now c.utf8.text c.from_unit-rest.utf8 c.from_line.ensures c.from_unit-rest.ensures).le

pub returns-clause-offset : goal.returns-clause-offset
returns-clause-offset c =
    (offset_found c.args.encoding c.args.position c.args.text.now c.from_line.result.now c.from_unit-rest.result.now c.utf8.text c.from_unit-rest.utf8 c.from_line.ensures c.from_unit-rest.ensures).offset

pub returns-clause-boundary : goal.returns-clause-boundary
returns-clause-boundary c =
    (offset_found c.args.encoding c.args.position c.args.text.now c.from_line.result.now c.from_unit-rest.result.now c.utf8.text c.from_unit-rest.utf8 c.from_line.ensures c.from_unit-rest.ensures).boundary
