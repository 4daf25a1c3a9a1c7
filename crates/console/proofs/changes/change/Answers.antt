-- `changes::change`: a record's values are those of the line.
use Rattle.console.proofs.Stepped.{whole}
use Rattle.console.proofs.changes.change.Goals as goal

pub returns-in-Record : goal.returns-in-Record
returns-in-Record g c = whole c.args.asked _ _ _ _ _ _ _ c.in-Record.is c.part-all.ensures c.write_record.ensures.1
