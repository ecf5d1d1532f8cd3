use Rattle.cli.proofs.Delivering.{put_complaint, put_missing, put_text}
use Rattle.cli.proofs.ask.put.Goals as goal

pub returns-in-Text : goal.returns-in-Text
returns-in-Text g c = put_text c.args.ask.now c.args.text.now _ _ _ _ _ _ c.in-Text.is c.deref.ensures c.deliver.ensures

pub returns-in-NotFound : goal.returns-in-NotFound
returns-in-NotFound g c = put_missing c.args.ask.now c.args.text.now c.deref-in-NotFound.result.now _ _ _ _ _ c.in-NotFound.is c.report_problem.ensures

pub returns-in-Usage : goal.returns-in-Usage
returns-in-Usage g c = put_complaint c.args.ask.now c.args.text.now c.deref-in-Usage.result.now _ _ _ _ _ c.in-Usage.is c.report_complaint.ensures
