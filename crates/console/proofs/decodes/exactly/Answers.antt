-- `decodes::exactly`: the word's bytes are given only where they are so many.
use Rattle.console.proofs.Made.{filled_exactly}
use Rattle.console.proofs.decodes.exactly.Goals as goal

pub returns-clause-value : goal.returns-clause-value
returns-clause-value g c = filled_exactly c.args.word.now _ g.row.N _ c.if-ne.ensures c.count.ensures.counted c.read.ensures
