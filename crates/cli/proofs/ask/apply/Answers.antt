use Rattle.cli.proofs.ask.apply.Goals as goal

pub returns-in-Set : goal.returns-in-Set
returns-in-Set c = rw c.in-Set.is c.text_with.ensures

pub returns-in-Insert : goal.returns-in-Insert
returns-in-Insert c = rw c.in-Insert.is c.text_with_node.ensures

pub returns-in-SetEach : goal.returns-in-SetEach
returns-in-SetEach c = rw c.in-SetEach.is c.text_with_each.ensures

pub returns-in-RemoveEach : goal.returns-in-RemoveEach
returns-in-RemoveEach c = rw c.in-RemoveEach.is c.text_without_each.ensures
