use Rattle.cli.proofs.QueryFaults.{refused_query}
use Rattle.cli.proofs.query.read_query.Goals as goal

pub returns-in_ok-fault-in-Err-Syntax : goal.returns-in_ok-fault-in-Err-Syntax
returns-in_ok-fault-in-Err-Syntax c =
    refused_query c.args.color c.args.text.now c.parse.result c.in-Err-Syntax.field-0 c.in-Err-Syntax.error c.in_ok-fault-in-Err-Syntax.field-0 c.in-Err-Syntax.is c.in-Err-Syntax.field-0-is
    c.parse.ensures.refused c.parse.ensures.located c.in_ok-fault-in-Err-Syntax.ensures
