use Rattle.cli.proofs.query.selected.Goals as goal

pub returns-clause-shows : goal.returns-clause-shows
returns-clause-shows c = record { document = c.in_ok-document.document; laid = c.in_ok-document.ensures.laid; shows = c.in_ok-out.ensures }
