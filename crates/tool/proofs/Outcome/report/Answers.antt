use Rattle.tool.proofs.Outcome.report.Goals as goal

pub returns-in-NotUtf8-clause-written : goal.returns-in-NotUtf8-clause-written
returns-in-NotUtf8-clause-written g c = rw c.in-NotUtf8.is c.report_line.ensures

pub returns-in-NoValue-clause-written : goal.returns-in-NoValue-clause-written
returns-in-NoValue-clause-written g c = rw c.in-NoValue.is c.report_line-in-NoValue.ensures

pub returns-in-Usage-clause-written : goal.returns-in-Usage-clause-written
returns-in-Usage-clause-written g c = rw c.in-Usage.is c.report_line-in-Usage.ensures

pub returns-in-ReadFailed-clause-written : goal.returns-in-ReadFailed-clause-written
returns-in-ReadFailed-clause-written g c = rw c.in-ReadFailed.is c.report_line-in-ReadFailed.ensures

pub returns-in-WriteFailed-clause-written : goal.returns-in-WriteFailed-clause-written
returns-in-WriteFailed-clause-written g c = rw c.in-WriteFailed.is c.report_line-in-WriteFailed.ensures

pub returns-in-Memory-clause-written : goal.returns-in-Memory-clause-written
returns-in-Memory-clause-written g c = rw c.in-Memory.is c.report_line-in-Memory.ensures
